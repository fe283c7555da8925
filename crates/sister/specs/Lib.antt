pub mod Table
pub mod Reading
pub mod Writing
pub mod Given
pub mod Layout
