mod Runs
mod Nexts
mod Once
mod Slots
mod Items
mod Growing
pub mod Whole
