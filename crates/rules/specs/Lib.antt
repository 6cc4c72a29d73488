pub mod Bands
pub mod RuleLaws
pub mod Multigraphs
