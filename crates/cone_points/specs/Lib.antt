pub mod Vertices
pub mod Angles
pub mod Walks
