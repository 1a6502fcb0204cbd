-- The balanced tree of live segments.
pub mod HighSides
pub mod NearSides
pub mod ScanAnswers
pub mod ScanGrowth
pub mod ScanOrders
pub mod TreeHeights
pub mod TreeNodes
pub mod TreeRemovals
pub mod TreeTurns
pub mod TreeWays
