pub mod Laws
pub mod Whole
pub mod Numbers
pub mod LetterLine
pub mod RecordLine
