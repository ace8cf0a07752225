pub mod Handling
pub mod Steps
pub mod Lists
