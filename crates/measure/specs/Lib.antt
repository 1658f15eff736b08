pub mod Exact
pub mod Layers
pub mod Points
pub mod RowNumbers
pub mod Rows
pub mod Settings
pub mod Whole
