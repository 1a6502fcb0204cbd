-- How near pieces lie.
pub mod Distances
pub mod NearMarks
pub mod Nearness
pub mod Coverings
pub mod OneSide
pub mod Places
pub mod NamedData
