pub mod Ranks
pub mod Tables
pub mod Choosing
pub mod Only
pub mod Proposals
pub mod Accepted
