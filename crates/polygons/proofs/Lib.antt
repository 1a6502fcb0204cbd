pub mod Adding
pub mod Answering
pub mod Items
pub mod Reading
pub mod Relations
pub mod SeveralRules
pub mod Turns
