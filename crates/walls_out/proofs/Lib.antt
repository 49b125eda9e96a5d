pub mod CallerLemmas
pub mod Changes
pub mod Owed
pub mod Steps
pub mod Naming
pub mod Parts
