pub mod Parts
pub mod Tales
pub mod Stories
pub mod Steps
pub mod Examples
