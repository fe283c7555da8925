pub mod Given
pub mod Hearing
