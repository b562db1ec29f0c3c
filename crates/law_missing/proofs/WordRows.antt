-- The rows of words and of the numbers of parts.
use Rattle.std.proofs.Common.{[], refl, ℕ, ◌∷◌}
use Rattle.pv_model.specs.Plain.{empty, named, other, text}
use Rattle.pv_missing.specs.Covers.{IsPossibleWith, cover_none}
use Rattle.law_missing.specs.Dtds.{any_dtd, endless_dtd, nested_dtd, sections_dtd}
use Rattle.law_missing.specs.Rows.{NumbersRow, OtherWords, SectionWords}
use Rattle.law_missing.proofs.Bounds.{opened}
use Rattle.pv_missing.proofs.CoversToInsertions.{covers-none}
use Rattle.law_missing.proofs.AnyRows.{other_never}
use Rattle.pv_missing.proofs.PossibleWords.{depths}
use Rattle.law_missing.proofs.NestedRows.{endless_word, three_word}
use Rattle.law_missing.proofs.RowTools.{possible_with}
use Rattle.law_missing.proofs.SectionBounds.{no_late_head}
use Rattle.law_missing.proofs.SectionRows.{hello_word, root_word, title_word}

-- a word that no model of br allows
br_text : (n : ℕ) → IsPossibleWith sections_dtd 6 n (text ∷ []) → ⊥
br_text n p = let o = opened sections_dtd 6 n empty (text ∷ []) refl p in
    let e = covers-none sections_dtd n (text ∷ []) (rw o.allowed at o.covers) in cc

pub section_words : SectionWords
section_words = (
  (depths sections_dtd 0 (text ∷ [])).0.1 (2, hello_word),
  (depths sections_dtd 0 (named 4 ∷ named 3 ∷ [])).0.1 (3, title_word),
  (λ p. let q = (depths sections_dtd 0 (named 2 ∷ named 1 ∷ [])).0.0 p in no_late_head q.0 q.1),
  (depths sections_dtd 0 (named 4 ∷ [])).1.1 (3, root_word),
  (depths sections_dtd 6 []).0.1 (0, possible_with sections_dtd 6 0 empty [] [] refl refl (cover_none 0 refl)),
  (λ p. let q = (depths sections_dtd 6 (text ∷ [])).0.0 p in br_text q.0 q.1),
)

pub other_words : OtherWords
other_words = (
  (depths nested_dtd 0 (named 1 ∷ named 1 ∷ named 1 ∷ [])).0.1 (3, three_word),
  (λ p. let q = (depths endless_dtd 0 []).1.0 p in endless_word q.0 q.1),
  (λ p. let q = (depths any_dtd 0 (named 1 ∷ other ∷ [])).0.0 p in other_never 0 q.0 q.1),
)

pub part_numbers_law : NumbersRow
part_numbers_law = (refl, refl, refl, refl, refl, refl, refl)
