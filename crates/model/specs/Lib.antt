pub mod Graphs
pub mod Rows
pub mod Rules
pub mod Instances
pub mod Tasks
pub mod TaskLaws
pub mod Blocks
