pub mod examples
pub mod Crossings
pub mod GraphAnswers
pub mod GraphPoints
pub mod Runs
