pub mod Held
pub mod Given
pub mod Rounds
pub mod Examples
pub mod Numbered
