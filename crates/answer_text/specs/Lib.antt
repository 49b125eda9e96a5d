pub mod Statuses
pub mod Lines
pub mod CheckTexts
pub mod BaseTexts
pub mod RegionTexts
pub mod WalkTexts
pub mod SummaryTexts
