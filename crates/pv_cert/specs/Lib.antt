pub mod Lines
pub mod Fronts
pub mod Packs
pub mod Meaning
pub mod Steps
pub mod Laws
