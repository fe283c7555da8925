pub mod Tables
pub mod Round
pub mod Leaves
pub mod Sound
pub mod Within
pub mod Parts
pub mod Halves
