pub mod PointTests
pub mod RowNumbers
