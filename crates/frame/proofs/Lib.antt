pub mod Fields
pub mod Back
pub mod Accepted
pub mod Alike
pub mod OnAir
