pub mod Poly
pub mod Below
pub mod Refusals
pub mod Scan
pub mod Bits
pub mod Lists
pub mod Strips
