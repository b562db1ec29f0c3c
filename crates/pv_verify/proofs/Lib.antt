-- of this crate:
pub mod LeastByTests
pub mod EarlierTests
pub mod MadePack
pub mod TestedBodies
pub mod OneAnswer
pub mod Refusals
