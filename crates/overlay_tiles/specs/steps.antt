pub mod LineOf
pub mod Parted
