pub mod Classes
pub mod Gathered
pub mod SimpleWalks
pub mod Sectors
pub mod ShapeWalks
-- what only contracts of private functions use
pub mod steps
