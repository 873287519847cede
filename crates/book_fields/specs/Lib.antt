pub mod Fields
pub mod Items
