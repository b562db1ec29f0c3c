pub mod DocumentDenials
pub mod Laws
pub mod ToldRows
