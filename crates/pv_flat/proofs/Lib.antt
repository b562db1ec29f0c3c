-- of this crate:
pub mod EventsSoFar
pub mod StateMoves
pub mod Openings
pub mod RootRefusals
pub mod States
pub mod EnteredRoot
