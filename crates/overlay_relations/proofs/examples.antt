pub mod Relations
pub mod Contacts
