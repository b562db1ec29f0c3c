pub mod Changes
pub mod Counts
pub mod WordMatches
pub mod Points
pub mod States
pub mod Stretches
pub mod Walks
