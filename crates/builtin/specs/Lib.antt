pub mod Collapsed
pub mod Laws
pub mod Types
