pub mod SectionsAnswered
pub mod LineCounts
pub mod Formula
pub mod Limits
pub mod Lines
pub mod OpenedDrill
pub mod PrintedDrill
pub mod Steps
