pub mod Laws
pub mod YesNos
pub mod Bits
pub mod Sets
pub mod Ascending
pub mod Pairs
