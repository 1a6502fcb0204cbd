-- Segments by their pairs, and pairs that are apart.
pub mod Pairs
pub mod Apart
