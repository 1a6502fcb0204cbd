-- Cells of a grid, chains of points, and what is found in them.
pub mod Boxes
pub mod Chained
pub mod Added
pub mod Walked
pub mod NotMet
pub mod Listed
pub mod Users
pub mod Pushed
pub mod Recorded
pub mod InOrder
pub mod Inner
