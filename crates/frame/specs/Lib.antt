pub mod Heading
pub mod OnAir
pub mod Examples
