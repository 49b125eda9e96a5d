pub mod Causes
pub mod Cells
pub mod Deques
pub mod Frontiers
pub mod Outcomes
