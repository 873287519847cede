pub mod Needing
pub mod Spreads
pub mod Cycles
pub mod Passing
pub mod Keeping
