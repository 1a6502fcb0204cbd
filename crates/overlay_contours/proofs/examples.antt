pub mod Polygons
pub mod Corners
pub mod Shapes
pub mod Beyond
pub mod Areas
pub mod Locations
pub mod Boxes
pub mod Sources
