-- Chains do not cross: the ends of pieces move back to their segments, and no end comes upon another piece on the way.
pub mod Steps
pub mod Motions
pub mod Sides
pub mod Directions
pub mod Stops
pub mod Clearings
pub mod Meetings
pub mod Pieces
pub mod Insides
pub mod Planar
