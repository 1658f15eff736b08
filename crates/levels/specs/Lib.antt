pub mod Classes
pub mod Faults
pub mod Refusals
pub mod RuleL1
pub mod Runs
pub mod Tables
