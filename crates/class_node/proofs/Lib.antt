pub mod Faults
pub mod Counts
pub mod Framed
pub mod Equivariance
pub mod ReachedCodes
pub mod CallerLemmas
