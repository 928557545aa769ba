pub mod Asks
pub mod Due
pub mod Ends
pub mod Heard
pub mod Met
pub mod NotLoadedText
pub mod Opened
pub mod Steps
