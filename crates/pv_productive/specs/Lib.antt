pub mod Sizes
pub mod Laws
pub mod Tables
pub mod PlainForms
pub mod Turns
