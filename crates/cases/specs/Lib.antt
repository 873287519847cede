pub mod Splits
pub mod Lefts
pub mod Numbers
pub mod Bytes
pub mod Read
pub mod Outcomes
pub mod Tallies
