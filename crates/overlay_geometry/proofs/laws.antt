-- The laws of the definitions, as lemmas that proofs here and in the crates above cite.
pub mod integers
pub mod lists
pub mod geometry
