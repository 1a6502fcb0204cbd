pub mod laws
pub mod examples
