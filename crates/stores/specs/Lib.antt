pub mod Faults
pub mod Meaning
pub mod Parts
pub mod Files
