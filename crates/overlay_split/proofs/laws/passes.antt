-- Data, and the code of a pass and of a run.
pub mod UnmarkedPairs
pub mod OldPairs
pub mod ChangedPairs
pub mod WholeBounds
pub mod RectSweeps
pub mod PartSteps
pub mod PartFinds
pub mod BoundChanges
pub mod AroundMarks
pub mod PartLooks
pub mod PartMarks
pub mod StoppedRuns
pub mod Splittable
pub mod Splitting
pub mod RunLooks
pub mod PieceNumbers
pub mod RunLengths
