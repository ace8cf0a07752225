pub mod Splits
pub mod Links
pub mod Stand
pub mod Walks
pub mod Opening
pub mod Entering
pub mod Frames
pub mod Filing
