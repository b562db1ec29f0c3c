-- for other crates:
pub mod ArgumentWords
pub mod AskedInputs
pub mod StagePairs
pub mod FetchedFiles
pub mod JudgedLists
pub mod OneOpening
pub mod OnePossibility
pub mod Possibilities
pub mod Stages

-- of this crate:
