pub mod Words
pub mod Listings
pub mod Faults
pub mod Graphs
pub mod Files
pub mod Checks
