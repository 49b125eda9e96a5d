pub mod Views
pub mod Counting
pub mod Told
pub mod Rule
pub mod Seats
