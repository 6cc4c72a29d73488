pub mod Multigraphs
