-- for other crates:
pub mod DrillStages
-- of this crate:
pub mod CommandLines
pub mod Completeness
pub mod CommandCounts
pub mod DrillReplies
pub mod Headline
pub mod Runs
