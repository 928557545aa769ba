pub mod Queues
pub mod Rule
pub mod Rings
pub mod Steps
