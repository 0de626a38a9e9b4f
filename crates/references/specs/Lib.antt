pub mod Resolution
pub mod Remembered
pub mod Memoization
pub mod MemoLaws
pub mod Halves
