mod Listed
mod Distinct
mod Explored
mod Ascending
mod Grouped
mod OneGraph
mod Inputs
mod Reported
mod Taken
mod Settling
mod Unread
mod Based
mod Closed
mod Numbers
pub mod JoinedTurns
