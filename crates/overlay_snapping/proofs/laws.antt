-- The laws of the definitions, as lemmas that proofs here and in the crates above cite.
pub mod pixels
pub mod chains
pub mod planarity
pub mod point_trees
pub mod cells
pub mod closure
pub mod cuts
pub mod counting
pub mod batches
pub mod collinear
