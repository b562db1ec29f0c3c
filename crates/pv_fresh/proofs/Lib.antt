-- for other crates:
pub mod ListWalks
pub mod Lists
pub mod NarrowLists
