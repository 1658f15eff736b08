pub mod Chains
pub mod Ends
pub mod Glyphs
pub mod Lists
pub mod Closings
pub mod Laid
pub mod Middles
