pub mod Verdicts
pub mod Answering
pub mod Continuing
