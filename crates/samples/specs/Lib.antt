pub mod Whole
pub mod Symbol
pub mod Coding
pub mod Numbers
pub mod Unrounded
