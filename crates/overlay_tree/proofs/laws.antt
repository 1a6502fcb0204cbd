-- The laws of the definitions, as lemmas that proofs here cite.
pub mod list
pub mod tree
