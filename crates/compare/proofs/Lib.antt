pub mod First
pub mod Lines
pub mod Going
pub mod Answers
pub mod Members
pub mod Complete
pub mod Exact
