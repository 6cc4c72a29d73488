pub mod Members
pub mod Filters
pub mod Distinct
pub mod Rising
pub mod Ranges
pub mod Words
pub mod Firsts
pub mod Items
