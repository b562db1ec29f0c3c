pub mod Words
pub mod Numbers
pub mod Lines
pub mod Paths
pub mod Fronts
pub mod Laws
