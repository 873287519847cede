pub mod Splitting
mod Numbering
mod Hexing
mod Piecing
mod Showing
mod Refusing
mod Reading
