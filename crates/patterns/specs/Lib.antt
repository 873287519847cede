pub mod Report
pub mod Answers
pub mod Files
