pub mod Vectors
pub mod Tiling
pub mod Whole
pub mod Invariant
pub mod Found
