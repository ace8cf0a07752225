pub mod Lists
pub mod Hands
pub mod Calls
pub mod Show
pub mod Simulator
