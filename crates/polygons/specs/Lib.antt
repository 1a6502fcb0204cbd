pub mod ContourText
pub mod Wkt
pub mod RelationText
pub mod Run
