-- What a graph encloses.
pub mod PlaceColumns
pub mod Regions
pub mod Boundaries
pub mod Again
pub mod Beside
pub mod BesidePlaces
pub mod BesideUprights
