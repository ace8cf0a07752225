pub mod Faults
pub mod Reading
pub mod Moving
pub mod Asked
pub mod Loans
