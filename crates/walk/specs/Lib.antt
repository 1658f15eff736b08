pub mod Parts
pub mod Inside
pub mod Widths
pub mod Fit
pub mod Walk
pub mod Steps
pub mod Whole
pub mod Places
