pub mod LowestNumbers
pub mod Filled
