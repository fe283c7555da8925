pub mod Zeros
pub mod Taking
pub mod Whole
pub mod Due
pub mod Leaves
pub mod ByColumns
pub mod Contents
pub mod Telling
