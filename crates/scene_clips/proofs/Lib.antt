pub mod Copies
pub mod FilePages
pub mod FramesAtRate
pub mod Middle
pub mod PagesTo
pub mod Rates
pub mod Silence
pub mod Walked
