pub mod Sizes
pub mod Jobs
