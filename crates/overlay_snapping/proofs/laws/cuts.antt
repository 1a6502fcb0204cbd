-- How the cuts of segments are found.
pub mod Collected
pub mod Places
pub mod Given
pub mod Ranges
pub mod Searched
pub mod Between
pub mod Added
pub mod Reads
pub mod ExactMarks
