pub mod Engines
pub mod Lines
pub mod Numbers
pub mod Output
pub mod Runs
pub mod Status
pub mod Text
pub mod Words
