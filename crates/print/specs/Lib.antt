pub mod Lines
pub mod Letters
pub mod Records
pub mod Examples
