pub mod Numbers
pub mod Replaying
pub mod Tally
