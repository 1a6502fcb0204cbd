pub mod LiveOf
pub mod LowerOf
pub mod ScanTrees
pub mod SearchCosts
pub mod TreeShapes
pub mod VisitStates
