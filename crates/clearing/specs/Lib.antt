pub mod Faults
pub mod Views
pub mod Adding
pub mod Counting
pub mod Writing
pub mod Outcomes
pub mod Sealed
pub mod Cleared
