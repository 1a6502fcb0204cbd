-- What only contracts of private functions use.
pub mod PointTrees
pub mod BoxesOf
pub mod Closing
pub mod Cutting
pub mod Batches
pub mod Resolved
pub mod LineWalks
pub mod Cells
pub mod Distances
pub mod InnerBoxes
pub mod Met
pub mod InOrder
pub mod Recorded
