pub mod TreeLooks
-- what only contracts of private functions use
pub mod steps
