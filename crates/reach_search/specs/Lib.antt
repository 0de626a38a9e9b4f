pub mod Searched
pub mod Marks
pub mod Additions
pub mod Dangles
