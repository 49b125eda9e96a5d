pub mod Reports
pub mod Lines
pub mod Limits
pub mod Following
pub mod Refusals
pub mod Readings
