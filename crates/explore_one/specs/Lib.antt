pub mod Filled
pub mod Frontiers
