-- for other crates:
pub mod TableTotals
pub mod WeightSums
pub mod Values
-- of this crate:
pub mod OneTables
