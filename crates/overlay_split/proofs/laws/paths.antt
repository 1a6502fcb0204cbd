-- Paths, sums over pieces, and the end of a run.
pub mod Pieces
pub mod Balances
pub mod Masks
pub mod Monotone
pub mod Potentials
pub mod Runs
pub mod Orders
