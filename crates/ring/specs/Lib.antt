pub mod Model
pub mod Turning
pub mod Answering
