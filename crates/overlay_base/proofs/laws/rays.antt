-- Windings by rays: sums along balanced segments, and what two rays from one place have in common.
pub mod Losses
pub mod Quadrants
pub mod Rays
pub mod BalanceTests
pub mod BalanceWalks
pub mod EndCounts
