-- of this crate:
pub mod EmptyElements
pub mod Tokens
pub mod WholeRoots
