-- of this crate:
pub mod ListTallies
pub mod SharedJudge
pub mod JobLists
pub mod Judgements
