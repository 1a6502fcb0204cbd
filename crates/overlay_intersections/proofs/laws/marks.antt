-- The marks that segments put on one another, and those of a pass, as a list in order.
pub mod Marks
pub mod Comparisons
pub mod MarkedPairs
pub mod ApartPairs
pub mod AxisPairs
pub mod FoundMarks
pub mod FoundEach
pub mod LineMarks
pub mod MarkBoxes
pub mod MarkSets
