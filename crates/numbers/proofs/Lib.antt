pub mod Multiples
pub mod Digits
pub mod Tokens
pub mod Numerals
pub mod Wholes
pub mod Places
pub mod Decimals
pub mod Held
