pub mod Lists
pub mod States
pub mod Rounds
pub mod Faults
