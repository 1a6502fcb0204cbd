-- A list of live segments, searched by halves.
pub mod KeptSums
pub mod ListAnswers
pub mod SearchCosts
pub mod Searches
