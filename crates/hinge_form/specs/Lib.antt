pub mod Triples
pub mod Hinges
pub mod Lines
pub mod Walls
pub mod Small
