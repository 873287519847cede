pub mod Grammar
pub mod Kinds
pub mod Values
pub mod Reading
pub mod Laws
pub mod Examples
