-- Stable sorts, and sums over lists.
pub mod StableSorts
pub mod Monoids
