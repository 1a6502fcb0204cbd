-- What only contracts of private functions use. No public contract speaks of it, so nobody has to believe it.
pub mod WayOf
pub mod PlaceOf
pub mod LevelRows
pub mod Positions
pub mod Rows
pub mod Numbered
