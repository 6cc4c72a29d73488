pub mod Classes
pub mod Faults
pub mod Tables
pub mod Laws
