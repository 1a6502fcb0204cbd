pub mod Path
pub mod Pass
pub mod Run
pub mod FinderOf
pub mod PassLooks
pub mod Potential
pub mod DataPass
pub mod CutOf
pub mod ExactInput
pub mod Nearness
pub mod Places
pub mod Laws
pub mod ResultOf
-- what only contracts of private functions use
pub mod steps
