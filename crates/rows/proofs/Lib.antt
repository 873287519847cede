mod Bytes
mod Readers
pub mod Back
