pub mod Characters
pub mod Telling
pub mod Joining
pub mod Divisions
pub mod Given
pub mod Examples
