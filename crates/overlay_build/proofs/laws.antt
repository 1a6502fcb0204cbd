-- The laws of the definitions, as lemmas that proofs here and in the crates above cite.
pub mod sides
pub mod regions
pub mod graphs
pub mod walks
