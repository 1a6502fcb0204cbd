-- How many segments a planar arrangement has, and the result of snap rounding.
pub mod Cones
pub mod Pigeons
pub mod Gaps
pub mod Counts
pub mod SnapCounts
