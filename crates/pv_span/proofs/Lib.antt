-- for other crates:
pub mod KnownSites
-- of this crate:
pub mod RowsAcrossColumns
pub mod PassedColumns
pub mod PossibleWords
pub mod CutSums
pub mod FinishedSpans
pub mod Flats
pub mod WaitingColumns
pub mod ListVerdicts
pub mod SitesWithColumns
pub mod LeastValues
pub mod LineFacts
pub mod CutLines
pub mod MovedDerivations
pub mod SpanNumbers
pub mod OtherColumns
pub mod RepeatedSpans
pub mod LoweredRows
pub mod Spreads
pub mod SiteWeights
pub mod WholeSpanSums
pub mod WordWeights
