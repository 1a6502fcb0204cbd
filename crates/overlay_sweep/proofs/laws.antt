-- The laws of the definitions, as lemmas that proofs here and in the crates above cite.
pub mod columns
pub mod live
pub mod list
pub mod visits
