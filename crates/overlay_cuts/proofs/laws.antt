-- The laws of the definitions, as lemmas that proofs here and in the crates above cite.
pub mod paths
pub mod nearness
pub mod planar
pub mod passes
