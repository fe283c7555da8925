pub mod Differences
pub mod Texts
pub mod Compare
pub mod Complete
pub mod Examples
