pub mod Lines
pub mod Rows
pub mod Grammar
pub mod Commands
pub mod Fronts
pub mod Parsers
