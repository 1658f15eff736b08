pub mod PileLaws
pub mod Piles
