-- What only contracts of private functions use. No public contract speaks of it, so nobody has to believe it.
pub mod Forests
pub mod CutWalks
pub mod Cycles
pub mod Fronts
pub mod Gathering
pub mod Joins
pub mod LeadOn
pub mod Rays
