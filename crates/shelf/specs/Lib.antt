pub mod Record
pub mod Summary
pub mod Shelf
pub mod Back
pub mod Examples
