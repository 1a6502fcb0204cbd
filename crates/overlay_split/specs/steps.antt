-- What only contracts of private functions use. No public contract speaks of it, so nobody has to believe it.
pub mod IsAt
pub mod ChangedBoxes
