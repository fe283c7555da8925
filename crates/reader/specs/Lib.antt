pub mod Taking
pub mod Due
