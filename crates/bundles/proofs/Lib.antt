pub mod Passed
pub mod Placed
pub mod Chunks
