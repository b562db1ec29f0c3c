pub mod TokenCounts
pub mod Judged
pub mod LastJudgedWord
pub mod Owners
