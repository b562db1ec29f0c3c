-- Laws of completions of lists, each a statement.
use Rattle.std.specs.Prelude.{List, [], ℕ, ◌∷◌}
use Rattle.pv_model.specs.Plain.{PlainToken, named}
use Rattle.pv_dtd.specs.Plain.{PlainDtd}
use Rattle.pv_rules.specs.Sites.{content_site, name_site}
use Rattle.pv_missing.specs.ListWeights.{whole}
use Rattle.pv_write.specs.Pieces.{PlainPiece}
use Rattle.pv_complete.specs.Pieces.{Writes, WritesContent}
use Rattle.pv_complete.specs.Spelling.{SpellsSpan}

-- The pieces that are spelled over a whole word make it into what the content of an element allows,
-- or into one element.
abbrev pub SpelledWrites : Type 0
SpelledWrites = (g : PlainDtd) (x n : ℕ) (w : List PlainToken) (ps : List PlainPiece) →
    (SpellsSpan g w n (whole (content_site x) w) ps → WritesContent g x n w ps) ×
    (SpellsSpan g w n (whole (name_site x) w) ps → Writes g n (named x ∷ []) w ps)
