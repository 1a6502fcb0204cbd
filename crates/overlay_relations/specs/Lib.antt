pub mod Relations
pub mod Boundaries
pub mod Crossings
pub mod BoundaryOf
pub mod Contacts
pub mod Matrix
pub mod Patterns
pub mod Refusals
pub mod Boxes
pub mod Regions
pub mod Pairs
-- what only contracts of private functions use
pub mod steps
pub mod Laws
pub mod ContactLaws
pub mod MatrixLaws
