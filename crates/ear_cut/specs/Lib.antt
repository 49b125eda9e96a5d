pub mod Cuttings
pub mod Cuttable
pub mod Steps
pub mod Slots
