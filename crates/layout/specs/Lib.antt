pub mod Ellipsis
pub mod Elided
pub mod Lines
pub mod Halves
