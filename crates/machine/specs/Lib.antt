pub mod Entry
pub mod Hands
pub mod Borrow
pub mod Facts
pub mod Calls
pub mod Rows
pub mod Evaluate
pub mod Laws
