pub mod Gathered
pub mod Records
pub mod Ranks
pub mod Workers
