pub mod Printouts
pub mod TwoLines
