pub mod CallerLemmas
pub mod Searches
