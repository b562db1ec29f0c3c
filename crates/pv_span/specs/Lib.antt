pub mod Charts
pub mod Least
pub mod Waits
pub mod Repeats
pub mod Lines
pub mod DoneSpans
pub mod PlainForms
pub mod Weights
