-- Cuts at exact marks, and exact input.
pub mod Meetings
pub mod Parts
pub mod WholeCrossings
pub mod ExactMarks
pub mod OrderedPaths
pub mod PlanarPasses
pub mod Unmarked
pub mod ExactInputs
pub mod ExactAnswers
