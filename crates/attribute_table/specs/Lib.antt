pub mod Lent
pub mod Phases
pub mod Answers
pub mod Effects
