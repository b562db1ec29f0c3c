pub mod Alike
pub mod Causes
pub mod Laws
pub mod Tests
pub mod Within
