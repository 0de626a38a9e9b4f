pub mod FirstAnswers
pub mod Resolved
