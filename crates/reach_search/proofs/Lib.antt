pub mod Members
pub mod Adding
pub mod Searching
pub mod Lowest
