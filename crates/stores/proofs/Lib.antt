pub mod Bytes
pub mod Filed
pub mod Granted
