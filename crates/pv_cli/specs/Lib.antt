pub mod RunCounts
pub mod CommandLine
pub mod Commands
pub mod Drill
pub mod Headline
pub mod Laws
pub mod Program
pub mod Returns
