pub mod Crossing
pub mod Marks
pub mod PassMarks
pub mod CrossAnswer
pub mod AnswerOf
pub mod Counts
pub mod MaskOf
pub mod MarkOf
pub mod MarksBetween
pub mod PlacingOf
pub mod Looked
pub mod Laws
-- what only contracts of private functions use
pub mod steps
