-- Worked examples of the definitions, which hold by computation; `Sources` is a theorem, which holds of every input.
pub mod Runs
pub mod RunLengths
pub mod DataPasses
pub mod Sources
pub mod Nearness
pub mod Places
