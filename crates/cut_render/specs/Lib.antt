pub mod Cut
pub mod Reading
pub mod Segments
pub mod Words
