pub mod Computing
pub mod Tiles
pub mod Tilings
