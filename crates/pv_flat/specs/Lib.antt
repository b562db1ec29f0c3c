pub mod Plain
pub mod ComingEvents
pub mod Steps
