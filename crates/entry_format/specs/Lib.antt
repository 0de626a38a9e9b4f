pub mod Faults
pub mod Reading
pub mod Names
pub mod Grammars
pub mod Encoding
pub mod Laws
pub mod Samples
