pub mod Shown
pub mod Laws
