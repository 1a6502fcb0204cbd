-- What a sweep visits, and what a handler makes of it.
pub mod BlockSorts
pub mod Visits
pub mod Handling
pub mod SweepStates
pub mod Arrangements
pub mod FillBytes
pub mod LookCosts
pub mod Standing
