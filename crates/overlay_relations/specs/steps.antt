pub mod Outcomes
pub mod ContactOutcomes
pub mod MatrixOutcomes
pub mod Columns
