pub mod Crossings
pub mod WallEdges
pub mod Pulled
pub mod Edges
pub mod Correspondence
