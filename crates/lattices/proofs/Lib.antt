mod Joins
mod Members
