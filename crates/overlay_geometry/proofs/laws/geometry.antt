-- Turns, orders and coordinates.
pub mod Polynomials
pub mod Comparisons
pub mod Points
pub mod Coordinates
pub mod Shifts
