pub mod ListJudgements
pub mod KnownVerdicts
pub mod Findings
pub mod Answers
