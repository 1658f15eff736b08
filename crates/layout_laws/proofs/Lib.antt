pub mod Endings
pub mod Ranges
pub mod Once
pub mod Overflows
pub mod Lines
pub mod Fitting
pub mod Every
