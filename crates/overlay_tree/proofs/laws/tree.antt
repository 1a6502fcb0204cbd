-- The finder over an interval tree.
pub mod IntervalTrees
pub mod HeightTests
pub mod Looks
pub mod TreeCuts
pub mod FewNodes
pub mod TreeBuilds
pub mod TreeRenewals
pub mod Sweeps
pub mod LookCounts
pub mod SweptMarks
pub mod TreeFinder
