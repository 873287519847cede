pub mod Steps
pub mod Writes
pub mod Sealing
pub mod Viewing
pub mod Forms
