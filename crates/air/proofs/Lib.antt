pub mod Laws
pub mod Packed
pub mod Frame
pub mod Stream
pub mod Answers
