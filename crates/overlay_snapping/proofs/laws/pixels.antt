-- The test whether a segment meets a pixel, the order in which it meets pixels, and how near a piece between two of them lies.
pub mod Offsets
pub mod Inequality
pub mod Orders
pub mod Distances
pub mod Ways
