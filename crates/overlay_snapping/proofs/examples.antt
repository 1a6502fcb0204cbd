-- Worked examples of the definitions, which hold by computation.
pub mod Computing
pub mod Pixels
pub mod Cells
pub mod Chains
pub mod PointTrees
pub mod Cuts
pub mod Counts
