pub mod Expected
pub mod Bits
pub mod Lines
