pub mod Format
pub mod Reach
