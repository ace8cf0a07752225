pub mod Reading
pub mod Serving
