-- Lists, and keys in order.
pub mod Lists
pub mod Elements
pub mod Keys
