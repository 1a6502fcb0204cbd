-- A tree over points.
pub mod Boxes
pub mod MissedBoxes
pub mod JoinedBoxes
pub mod Columns
pub mod MetPlaces
pub mod ColumnSearches
