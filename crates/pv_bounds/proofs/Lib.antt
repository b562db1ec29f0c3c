pub mod ListBounds
pub mod ClosedFronts
pub mod LevelCuts
pub mod LeastCosts
pub mod SharedEnds
pub mod Stretches
pub mod ChangedLevels
