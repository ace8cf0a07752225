pub mod Sizes
pub mod Exchanges
pub mod Requests
pub mod Openings
pub mod Frames
pub mod Owed
