pub mod Answers
pub mod Truth
pub mod Views
