pub mod Lines
pub mod GraphLines
