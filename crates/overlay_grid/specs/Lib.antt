pub mod Grid
pub mod GridLooks
pub mod FragmentOf
pub mod GroupsOf
pub mod GridFor
pub mod ColumnLooks
pub mod BufferLooks
pub mod Laws
-- what only contracts of private functions use
pub mod steps
