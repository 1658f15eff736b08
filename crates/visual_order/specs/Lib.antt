pub mod Cause
pub mod Laws
pub mod Verdict
pub mod VisualOrder
pub mod Tables
