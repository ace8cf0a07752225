pub mod Rewired
pub mod Rounds
pub mod Splices
pub mod Framing
pub mod Room
pub mod Steps
pub mod Shapes
