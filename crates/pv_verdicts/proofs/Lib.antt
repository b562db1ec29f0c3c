-- for other crates:
pub mod SplicedLists
-- of this crate:
pub mod CountAnswers
pub mod ListDifferences
pub mod ReplacedParts
