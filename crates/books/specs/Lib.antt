pub mod Faults
pub mod Guard
pub mod Drafts
pub mod Spread
pub mod Tests
pub mod Sealing
pub mod Views
