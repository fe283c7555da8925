pub mod Puts
pub mod Forms
pub mod Parts
