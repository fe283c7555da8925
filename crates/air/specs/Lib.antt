pub mod OnAir
pub mod Packed
