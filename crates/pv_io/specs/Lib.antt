pub mod Causes
pub mod Files
pub mod Folder
pub mod Memory
