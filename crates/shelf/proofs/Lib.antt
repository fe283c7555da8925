pub mod Rules
pub mod Stores
pub mod Entries
pub mod Answers
pub mod Adding
pub mod Records
pub mod Making
pub mod Exact
