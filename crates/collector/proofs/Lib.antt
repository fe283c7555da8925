pub mod Told
pub mod Marks
pub mod NumberMarks
pub mod OnePlace
pub mod AllPlaces
pub mod Calls
pub mod Seen
