pub mod Places
pub mod Stops
pub mod Reach
pub mod Graphs
pub mod Causes
pub mod Singles
pub mod Rings
pub mod RingLaws
