pub mod Arithmetic
pub mod Steps
pub mod Shifted
pub mod Numbers
pub mod Answers
pub mod Exact
pub mod Differential
pub mod Examples
