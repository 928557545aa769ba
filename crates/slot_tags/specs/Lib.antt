pub mod Codes
pub mod Notes
pub mod Rule
pub mod Seats
pub mod Shown
pub mod Steps
pub mod Tags
