pub mod Live
pub mod Takes
pub mod Free
pub mod Runs
pub mod Laws
