-- Worked examples of the definitions, which hold by computation.
pub mod Computing
pub mod Words
pub mod Turns
pub mod Meetings
pub mod Counts
pub mod Joins
pub mod DataJoins
pub mod Rules
pub mod Rays
