pub mod Returning
pub mod Areas
pub mod Turns
