-- Pieces that are joined some at a time.
pub mod Bounds
pub mod FewPieces
pub mod CutPaths
pub mod Walks
pub mod CutLists
pub mod Existence
pub mod Steps
