-- of this crate:
pub mod ComparedEvents
pub mod EventsLeave
pub mod KeptDocuments
pub mod LeftOutHedges
pub mod AttributeMarks
pub mod OneHedge
pub mod PlainElements
pub mod GivenEvents
pub mod ShownEvents
pub mod UnitTexts
pub mod Wants
