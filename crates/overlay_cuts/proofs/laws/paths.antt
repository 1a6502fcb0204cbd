-- Paths, and sums over pieces.
pub mod Cuts
pub mod MarkedPairs
pub mod Paths
pub mod Pieces
pub mod PieceCounts
pub mod Balances
pub mod Monotone
pub mod Ends
pub mod Maps
pub mod Boxes
