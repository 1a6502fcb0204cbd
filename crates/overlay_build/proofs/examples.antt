-- Worked examples of the definitions, which hold by computation.
pub mod Computing
pub mod Graphs
pub mod Boundaries
pub mod GivenAgain
pub mod Walks
pub mod Beside
pub mod DirectedWalks
