-- Worked examples of the definitions, which hold by computation.
pub mod Computing
pub mod Squares
pub mod Paths
pub mod Cuts
pub mod ExactInputs
