-- What only contracts of private functions use. No public contract speaks of it, so nobody has to believe it.
pub mod Numerators
pub mod OffsetOf
pub mod Along
pub mod ContactOf
pub mod CornerOf
pub mod NearerEnd
pub mod AddedMarks
