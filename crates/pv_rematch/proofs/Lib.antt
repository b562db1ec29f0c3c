-- for other crates:
pub mod ChangedNumbers
pub mod TokenNumbers
-- of this crate:
pub mod KeptAnswers
pub mod LeadingPoints
pub mod ReadStates
pub mod SplicedPoints
pub mod TurnedPoints
pub mod KeptWalks
