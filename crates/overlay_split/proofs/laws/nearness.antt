-- How near the result lies.
pub mod Nearness
pub mod Coverings
pub mod LineCounts
pub mod Places
pub mod FarRays
pub mod NearKinds
pub mod NearLines
pub mod NearMasks
pub mod Reaches
