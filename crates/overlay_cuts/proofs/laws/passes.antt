-- Data, and the code of a cut.
pub mod DataPasses
pub mod DataInvariants
pub mod Refusals
pub mod Columns
pub mod PieceSteps
pub mod MarkBlocks
pub mod CutSteps
pub mod CutLists
pub mod CutWalks
pub mod Splittable
pub mod Ready
pub mod GridRuns
pub mod PassLooks
pub mod Stores
pub mod Skips
