-- The words of an entry are read as they are written.
use Rattle.std.proofs.Common.{◌≡◌, ℕ, List, [], ◌∷◌, ◌++◌, refl, ap, ◌∙◌, arith, decimal}
use Rattle.pv_rules.specs.PlainForms.{plain_site}
use Rattle.pv_rules.specs.Sites.{PlainSite, content_site, name_site, part_site, rest_site}
use Rattle.pv_words.specs.Numbers.{IsNumberBefore}
use Rattle.pv_words.specs.Words.{words}
use Rattle.pv_words.proofs.NumberWords.{decimal-free}
use Rattle.pv_words.proofs.FirstWords.{Free, Free-append}
use Rattle.pv_tables.specs.Tables.{site_number}
use Rattle.pv_tables.specs.declared.tables.Entry.{Entry}
use Rattle.pv_cert.specs.Fronts.{AreSpanAndValue, IsEntryText, IsKind}
use Rattle.pv_cert.specs.Lines.{IsEntryInRange, entry_words, kind_word}
use Rattle.pv_words.proofs.Cuts.{one-number-before, same-decimal}

-- what stands before a blank in a span and its value
from-before : (bytes : List ℕ) (from to value : ℕ) → AreSpanAndValue bytes from to value → IsNumberBefore bytes from (decimal to ++ (32 ∷ decimal value))
from-before bytes from to value s = record { within = s.is_from; whole = s.whole }

pub record SameSpanAndValue (from to value i j v : ℕ) : Type 0 where
  pub froms : from ≡ i
  pub tos : to ≡ j
  pub values : value ≡ v

pub one-span-and-value : (bytes : List ℕ) (from to value i j v : ℕ) → AreSpanAndValue bytes from to value → AreSpanAndValue bytes i j v → SameSpanAndValue from to value i j v
one-span-and-value bytes from to value i j v one other =
    let first = one-number-before bytes from i _ _ (from-before bytes from to value one) (from-before bytes i j v other) in
    let second = one-number-before (decimal to ++ (32 ∷ decimal value)) to j (decimal value)
    (decimal v) record { within = one.is_to; whole = refl }
    record { within = other.is_to; whole = first.rests } in
    record { froms = first.numbers; tos = second.numbers; values = same-decimal value v one.is_value other.is_value second.rests }

-- what stands after the number of an entry
abbrev pub span_text : Entry → List ℕ
span_text e = words (decimal e.from ∷ decimal e.to ∷ decimal e.value ∷ [])

-- the letter of an entry's kind, and what stands after it
pub record HasLetter (line : List ℕ) (e : Entry) : Type 0 where
  pub letter : ℕ
  pub is_kind : IsKind letter e.site
  pub whole : line ≡ letter ∷ 32 ∷ (decimal (site_number (plain_site e.site)) ++ (32 ∷ span_text e))

pub letter-by : (s : PlainSite) → (letter : ℕ) × (kind_word s ≡ letter ∷ [])
letter-by (content_site x) = (99, refl)
letter-by (name_site x) = (110, refl)
letter-by (part_site q) = (112, refl)
letter-by (rest_site q) = (115, refl)

pub has-letter : (line : List ℕ) (e : Entry) → IsEntryText line e → HasLetter line e
has-letter line e t =
    let l = letter-by (plain_site e.site) in
    record { letter = l.0; is_kind = l.1; whole = t.whole ∙ ap (λ k. k ++ (32 ∷ (decimal (site_number (plain_site e.site)) ++ (32 ∷ span_text e)))) l.1 }

-- no LF stands in the text of an entry
pub entry-free : (line : List ℕ) (e : Entry) → IsEntryInRange e → Free 10 (words (entry_words e))
entry-free line e r =
    Free-append 10 (kind_word (plain_site e.site)) _ (kind-free (plain_site e.site)) (
      λ same. absurd (omega arith),
      Free-append 10 (decimal (site_number (plain_site e.site))) _ (decimal-free 10 (site_number (plain_site e.site)) (omega arith) r.number) (
        λ same. absurd (omega arith),
        Free-append 10 (decimal e.from) _ (decimal-free 10 e.from (omega arith) r.from) (
          λ same. absurd (omega arith),
          Free-append 10 (decimal e.to) _ (decimal-free 10 e.to (omega arith) r.to)
              (λ same. absurd (omega arith), decimal-free 10 e.value (omega arith) (omega (arith, r.value))),
        ),
      ),
    )
  where
    kind-free : (s : PlainSite) → Free 10 (kind_word s)
    kind-free (content_site x) = (λ same. absurd (omega arith), tt)
    kind-free (name_site x) = (λ same. absurd (omega arith), tt)
    kind-free (part_site q) = (λ same. absurd (omega arith), tt)
    kind-free (rest_site q) = (λ same. absurd (omega arith), tt)
