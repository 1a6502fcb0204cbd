-- Joins of segments at one pair, with and without data.
pub mod Bags
pub mod Maps
pub mod Members
pub mod Ranges
pub mod Repeats
pub mod Functionals
pub mod Rests
pub mod DataJoins
pub mod SortedJoins
pub mod DataWalks
pub mod Merges
pub mod Stops
pub mod Views
pub mod OneValues
pub mod Stores
pub mod Early
