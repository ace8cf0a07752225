pub mod Keeping
pub mod Placing
pub mod Turning
pub mod Faults
pub mod Once
