pub mod Kinds
pub mod Places
pub mod Reports
pub mod Runs
pub mod Words
