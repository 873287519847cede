pub mod Cursors
pub mod Dialects
pub mod Faults
pub mod Files
pub mod Masks
pub mod Reading
