-- What only contracts of private functions use. No public contract speaks of it, so nobody has to believe it.
pub mod FragmentFinder
pub mod BufferBorders
pub mod SortKeys
pub mod Entering
pub mod Sweeps
