pub mod Table
pub mod Content
pub mod Reading
pub mod Writing
pub mod Examples
pub mod InCode
pub mod Columns
