pub mod Dtds
pub mod Documents
pub mod Rows
pub mod Tables
