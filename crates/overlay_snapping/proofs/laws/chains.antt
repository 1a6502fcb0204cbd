-- Chains, from lists of hot points and of segments that move.
pub mod Closures
pub mod MarkPoints
pub mod MarkPixels
pub mod Orders
pub mod Paths
pub mod GivenMarks
pub mod HotCuts
pub mod ExactCuts
pub mod ExactSnaps
pub mod Snaps
pub mod MarkLists
pub mod SnapRuns
pub mod Reorders
