pub mod ColumnWindings
pub mod ChainWindings
pub mod Fill
pub mod Sweep
pub mod Live
pub mod VisitOf
pub mod SweepOf
pub mod EntryOf
pub mod Costs
pub mod Supports
pub mod LivePositions
pub mod LiveOf
pub mod Laws
pub mod LiveRows
-- what only contracts of private functions use
pub mod steps
