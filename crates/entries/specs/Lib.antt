pub mod Fields
pub mod Loaded
pub mod Models
pub mod Resolving
