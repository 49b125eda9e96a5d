pub mod Polygons
pub mod Gluings
pub mod Refusals
pub mod Bounds
pub mod Parts
pub mod Tables
pub mod Neighbours
