-- What a fill says of the two sides, and how many segments meet at a point.
pub mod Vertices
pub mod Uprights
pub mod Parities
pub mod FillSides
pub mod EvenNodes
pub mod LineSides
