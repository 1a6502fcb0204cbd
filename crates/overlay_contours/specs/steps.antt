pub mod Bounding
pub mod Locating
pub mod SourceGraphs
