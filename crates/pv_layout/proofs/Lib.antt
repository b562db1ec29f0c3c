-- for other crates:
pub mod ColumnFacts
pub mod HeldFits
pub mod MentionedColumns
pub mod PutValues
pub mod ProgramColumns
pub mod SharedSites
pub mod ColumnsAsSites
-- of this crate:
pub mod RuleDerivations
pub mod LaidColumns
pub mod SitesWithin
pub mod MemberColumns
