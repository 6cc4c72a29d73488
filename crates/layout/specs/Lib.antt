pub mod Faults
pub mod Layouts
pub mod Passes
pub mod Refills
