pub mod Heads
pub mod Texts
pub mod Keeping
pub mod Answers
