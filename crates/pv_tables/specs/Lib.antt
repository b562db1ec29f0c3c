pub mod Tables
pub mod Values
pub mod TableLaws
pub mod WeightLaws
