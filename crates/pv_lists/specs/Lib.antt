pub mod Runs
pub mod Types
pub mod Tags
pub mod WholeLists
pub mod Judgements
pub mod OpenLists
pub mod Contents
pub mod Answers
