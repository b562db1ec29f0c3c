-- Weights that are remembered, by owner and word.
use Rattle.std.specs.Prelude.{IfSome, List, Option, Some, length, map, slice_get, ℕ, ◌≡◌}
use Rattle.pv_dtd.specs.Plain.{PlainDtd}
use Rattle.pv_missing.specs.PlainForms.{plain_of}
use Rattle.pv_missing.specs.ListWeights.{whole}
use Rattle.pv_missing.specs.Widths.{FitsWeights}
use Rattle.pv_model.specs.Plain.{PlainToken}
use Rattle.pv_model.specs.PlainForms.{plain_token}
use Rattle.pv_rules.specs.Derivations.{IsWeight}
use Rattle.pv_rules.specs.Rules.{Rule}
use Rattle.pv_rules.specs.Sites.{PlainSite}
use Rattle.pv_tables.specs.Tables.{AreAllEntries}
use Rattle.pv_tables.specs.declared.tables.Entry.{Entry}
use Rattle.pv_complete.specs.declared.missing.known.KnownWeight.{KnownWeight}
use Rattle.pv_complete.specs.declared.missing.known.KnownWeights.{KnownWeights}
use Rattle.pv_write.specs.declared.pieces.Piece.{Piece}
use Rattle.pv_write.specs.PieceForms.{plain_pieces}
use Rattle.pv_complete.specs.Pieces.{WritesAt}

-- A word weighs so much at a site, and isn't too wide for weights.
pub record IsWordWeight (g : PlainDtd) (s : PlainSite) (w : List PlainToken) (k : ℕ) : Type 0 where
  pub weight : IsWeight (Rule g w) (whole s w) k
  pub fits : FitsWeights g (length w)

-- Where there are pieces, they make the word into what stands at the site, by k new elements.
abbrev pub AreKnownPieces : PlainDtd → PlainSite → List PlainToken → ℕ → Option (List Piece) →
    Type 0
AreKnownPieces g s w k pieces = IfSome pieces (λ ps. WritesAt g s k w (plain_pieces ps))

-- where there are entries, they are all those of the word
abbrev pub AreKnownEntries : PlainDtd → List PlainToken → Option (List Entry) → Type 0
AreKnownEntries g w entries = IfSome entries (AreAllEntries g w)

-- A word weighs so much at a site; these are the pieces of a completion, where there are any, and
-- these the entries of its table.
pub record IsWeighedWord (g : PlainDtd) (s : PlainSite) (w : List PlainToken) (k : ℕ)
    (pieces : Option (List Piece)) (entries : Option (List Entry)) : Type 0 where
  pub weighs : IsWordWeight g s w k
  pub writes : AreKnownPieces g s w k pieces
  pub lists : AreKnownEntries g w entries

-- Each entry tells what its word weighs by its owner, and where they are kept how it is completed,
-- and its table.
abbrev pub AreKnown : PlainDtd → KnownWeights → Type 0
AreKnown g known = (k : ℕ) (e : KnownWeight) → slice_get known.entries.items k ≡ Some e →
    IsWeighedWord g (plain_of e.of) (map plain_token e.word) e.weight e.pieces e.table
