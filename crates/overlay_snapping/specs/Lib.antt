pub mod Pixels
pub mod Chains
pub mod HotOf
pub mod Counts
pub mod CutsOf
pub mod PointTreeOf
pub mod PointGridOf
pub mod PointFinderOf
pub mod SnapOf
pub mod SolverOf
-- what only contracts of private functions use
pub mod steps
pub mod Laws
