-- What is hot, found by repetition.
pub mod Elements
pub mod Repetitions
pub mod Movers
