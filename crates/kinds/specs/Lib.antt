pub mod Causes
pub mod Decimals
pub mod Laws
pub mod Taking
pub mod Wholes
pub mod Writing
