-- The list of live segments in order.
pub mod Searches
pub mod ListReads
pub mod ListOrders
pub mod ListAnswers
pub mod Halves
pub mod LastingRows
pub mod Cursors
pub mod Rows
pub mod Members
pub mod RowGrowth
pub mod RowOrders
pub mod RowReads
