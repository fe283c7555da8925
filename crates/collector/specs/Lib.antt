pub mod Whole
pub mod Places
pub mod Collector
pub mod Layout
