pub mod examples
pub mod laws
