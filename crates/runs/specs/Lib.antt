pub mod Log
pub mod Standing
pub mod Laws
pub mod Widths
pub mod Events
pub mod Performing
