pub mod RunLooks
pub mod SettingsOf
pub mod PassOf
pub mod RunLengths
pub mod Laws
pub mod SplitOf
pub mod SplitFaultOf
-- what only contracts of private functions use
pub mod steps
