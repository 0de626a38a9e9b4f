pub mod Example
pub mod Lawfulness
