-- for other crates:
pub mod CutSums
pub mod SizeLaws
-- of this crate:
pub mod Elements
pub mod GrownHedges
pub mod LeastSums
pub mod LoweredSizes
pub mod HedgeDerivations
pub mod SettledSizes
pub mod NameSizes
pub mod EmptyWeights
