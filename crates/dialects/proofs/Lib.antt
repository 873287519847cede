mod Filling
pub mod Outcomes
mod Rows
mod Tails
mod Walks
