pub mod Fronts
pub mod Bounds
pub mod HoldingForms
pub mod Windows
pub mod Laws
