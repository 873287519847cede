pub mod Drafts
pub mod Files
pub mod Filling
