-- The finder over a list.
pub mod ListLooks
pub mod ListScans
pub mod ListReach
pub mod Listed
