pub mod TakenLines
pub mod Edits
pub mod Asks
pub mod Commands
pub mod LineReading
pub mod Replies
pub mod Laws
