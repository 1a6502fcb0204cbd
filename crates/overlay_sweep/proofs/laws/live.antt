-- The segments that are live at one x, and who is directly below.
pub mod LiveSums
pub mod Below
pub mod Supports
pub mod StartPoints
pub mod Sides
pub mod UnderOrders
pub mod PointChains
pub mod DirectlyBelow
pub mod Boundaries
pub mod ScanSums
pub mod LevelRows
