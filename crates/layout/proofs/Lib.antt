pub mod Joins
pub mod Types
pub mod Steps
pub mod Listed
pub mod Passing
pub mod Writing
pub mod Answering
pub mod Refills
