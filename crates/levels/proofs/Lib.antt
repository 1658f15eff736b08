mod Bytes
mod Rows
mod Rule
pub mod Scanning
mod Verdicts
