pub mod Cast
pub mod Core
pub mod Hands
pub mod Moves
pub mod Openings
pub mod Parting
pub mod ReadingSteps
