-- Winding counts, their masks, and fills.
pub mod Windings
pub mod Fills
pub mod ClipRules
