pub mod Value
pub mod Book
pub mod Meaning
pub mod Clear
pub mod Theorems
pub mod Examples
pub mod Types
