pub mod Ways
pub mod OutlineSums
pub mod Triangles
pub mod Pieces
pub mod Edges
