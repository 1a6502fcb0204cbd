pub mod Outlines
pub mod Convex
pub mod ConvexOf
pub mod Laws
