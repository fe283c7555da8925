pub mod Pier
pub mod Exactly
pub mod Run
