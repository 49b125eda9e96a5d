pub mod Crossed
pub mod Each
pub mod Others
pub mod Notes
pub mod Ringed
pub mod Steals
pub mod CallerLemmas
