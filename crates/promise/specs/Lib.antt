pub mod State
pub mod Serves
pub mod Book
pub mod Facts
pub mod Promise
pub mod Uses
pub mod Evaluate
pub mod Desk
