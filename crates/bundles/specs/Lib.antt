pub mod Format
pub mod Contents
pub mod Bundles
