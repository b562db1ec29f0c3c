-- for other crates:
pub mod Beginnings
pub mod Completions
pub mod ContinuedScripts
pub mod Likeness
pub mod MissingElements
pub mod OneReplies
pub mod OneSession
-- of this crate:
pub mod Conversations
pub mod ConversationLines
pub mod LineCounts
pub mod HeldReplies
pub mod KeptOffers
pub mod Limits
pub mod Moves
pub mod NoneMissing
pub mod OneNeed
pub mod OneOffer
pub mod OpenedSessions
pub mod ConversationPieces
pub mod Replies
pub mod ReplyTexts
pub mod Texts
pub mod VerdictLines
