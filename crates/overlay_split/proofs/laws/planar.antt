-- Planar results and exact input.
pub mod Arranged
pub mod PlanarRuns
pub mod ExactInputs
pub mod ExactAnswers
