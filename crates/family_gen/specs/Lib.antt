pub mod Tilings
pub mod Octagons
pub mod Families
pub mod Tiles
