-- Entries are read from the front of some bytes, up to their LF.
use Rattle.std.proofs.Common.{◌≡◌, ◌≤◌, ◌<◌, ℕ, List, [], ◌∷◌, ◌++◌, length, refl, sym, ap, ◌∙◌, append_assoc, arith, decimal}
use Rattle.std.proofs.lemmas.List.{length-append}
use Rattle.pv_rules.specs.Derivations.{most_missing}
use Rattle.pv_rules.specs.PlainForms.{plain_site}
use Rattle.pv_rules.specs.declared.sites.Site.{Site}
use Rattle.pv_words.specs.Words.{with_feed, words}
use Rattle.pv_tables.specs.Tables.{site_number}
use Rattle.pv_tables.specs.declared.tables.Entry.{Entry}
use Rattle.pv_cert.specs.Fronts.{Begins, IsKind, IsSpanThen}
use Rattle.pv_words.specs.Numbers.{IsNumberBefore, IsNumberThen}
use Rattle.pv_cert.specs.Lines.{entry_line, entry_words, kind_word}
use Rattle.pv_cert.proofs.EntryWords.{letter-by}
use Rattle.pv_words.proofs.Cuts.{one-number-before}
use Rattle.pv_words.proofs.DigitsRead.{one-number-then}

-- ---- a span and its value
from-before : (bytes : List ℕ) (from to value : ℕ) (rest : List ℕ) → IsSpanThen bytes from to value rest → IsNumberBefore bytes from (decimal to ++ (32 ∷ (decimal value ++ (10 ∷ rest))))
from-before bytes from to value rest s = record { within = s.is_from; whole = s.whole }

pub no-from : (bytes : List ℕ) → ((n : ℕ) (behind : List ℕ) → IsNumberBefore bytes n behind → ⊥) → (from to value : ℕ) (rest : List ℕ) → IsSpanThen bytes from to value rest → ⊥
no-from bytes none from to value rest s = none from _ (from-before bytes from to value rest s)

pub no-to : (bytes : List ℕ) (n : ℕ) (behind : List ℕ) → IsNumberBefore bytes n behind → ((m : ℕ) (more : List ℕ) → IsNumberBefore behind m more → ⊥) →
    (from to value : ℕ) (rest : List ℕ) → IsSpanThen bytes from to value rest → ⊥
no-to bytes n behind before none from to value rest s =
    let same = one-number-before bytes n from behind (decimal to ++ (32 ∷ (decimal value ++ (10 ∷ rest)))) before (from-before bytes from to value rest s) in
    none to (decimal value ++ (10 ∷ rest)) record { within = s.is_to; whole = same.rests }

pub no-value : (bytes : List ℕ) (n : ℕ) (behind : List ℕ) (m : ℕ) (more : List ℕ) →
    IsNumberBefore bytes n behind → IsNumberBefore behind m more → ((v : ℕ) (rest : List ℕ) →
    IsNumberThen 10 more v rest → ⊥) →
    (from to value : ℕ) (rest : List ℕ) → IsSpanThen bytes from to value rest → ⊥
no-value bytes n behind m more before next none from to value rest s =
    let same = one-number-before bytes n from behind (decimal to ++ (32 ∷ (decimal value ++ (10 ∷ rest)))) before (from-before bytes from to value rest s) in
    let later = one-number-before behind m to more (decimal value ++ (10 ∷ rest)) next record { within = s.is_to; whole = same.rests } in
    none value rest record { within = s.is_value; whole = later.rests }

pub span-then : (bytes : List ℕ) (n : ℕ) (behind : List ℕ) (m : ℕ) (more : List ℕ) (v : ℕ)
    (rest : List ℕ) → IsNumberBefore bytes n behind → IsNumberBefore behind m more →
    IsNumberThen 10 more v rest → IsSpanThen bytes n m v rest
span-then bytes n behind m more v rest before next last = record {
  is_from = before.within;
  is_to = next.within;
  is_value = last.within;
  whole = before.whole ∙ ap (λ l. decimal n ++ (32 ∷ l)) (next.whole ∙ ap (λ l. decimal m ++ (32 ∷ l)) last.whole);
}

one-value : (bytes : List ℕ) (from to value : ℕ) (rest : List ℕ) (i j v : ℕ) (more : List ℕ) → IsSpanThen bytes from to value rest → IsSpanThen bytes i j v more → value ≡ v
one-value bytes from to value rest i j v more one other =
    let first = one-number-before bytes from i _ _ (from-before bytes from to value rest one) (from-before bytes i j v more other) in
    let second = one-number-before (decimal to ++ (32 ∷ (decimal value ++ (10 ∷ rest)))) to j
    (decimal value ++ (10 ∷ rest)) (decimal v
    ++ (10 ∷ more)) record { within = one.is_to; whole = refl }
    record { within = other.is_to; whole = first.rests } in
    one-number-then 10 (decimal value ++ (10 ∷ rest)) value v rest more (λ digit. omega arith) record { within = one.is_value; whole = refl } record { within = other.is_value; whole = second.rests }

-- ---- a whole entry

-- what stands after the number of an entry
abbrev behind_number : Entry → List ℕ → List ℕ
behind_number e rest = decimal e.from ++ (32 ∷ (decimal e.to ++ (32 ∷ (decimal e.value ++ (10 ∷ rest)))))

abbrev behind_kind : Entry → List ℕ → List ℕ
behind_kind e rest = decimal (site_number (plain_site e.site)) ++ (32 ∷ behind_number e rest)

flat : (e : Entry) (rest : List ℕ) → with_feed (words (entry_words e)) ++ rest ≡ kind_word (plain_site e.site) ++ (32 ∷ behind_kind e rest)
flat e rest = simp append_assoc

record HasLetterAt (bytes : List ℕ) (e : Entry) (rest : List ℕ) : Type 0 where
  pub letter : ℕ
  pub is_kind : IsKind letter e.site
  pub whole : bytes ≡ letter ∷ 32 ∷ behind_kind e rest

letter-at : (bytes : List ℕ) (e : Entry) (rest : List ℕ) → Begins bytes (entry_line e) rest → HasLetterAt bytes e rest
letter-at bytes e rest b =
    let l = letter-by (plain_site e.site) in
    record { letter = l.0; is_kind = l.1; whole = b.whole ∙ flat e rest ∙ ap (λ k. k ++ (32 ∷ behind_kind e rest)) l.1 }

record ArePartsAt (behind : List ℕ) (letter : ℕ) (e : Entry) (rest : List ℕ) : Type 0 where
  pub is_kind : IsKind letter e.site
  pub number : IsNumberBefore behind (site_number (plain_site e.site)) (behind_number e rest)
  pub span : IsSpanThen (behind_number e rest) e.from e.to e.value rest
  pub value : e.value ≤ most_missing

parts-at : (letter : ℕ) (behind : List ℕ) (e : Entry) (rest : List ℕ) → Begins (letter ∷ 32 ∷ behind) (entry_line e) rest → ArePartsAt behind letter e rest
parts-at letter behind e rest b =
    let l = letter-at (letter ∷ 32 ∷ behind) e rest b in
    let same : l.letter ≡ letter = cc (sym l.whole) in
    let is : behind ≡ behind_kind e rest = cc (l.whole) in
    let r = b.in_range in
    record {
      is_kind = l.is_kind ∙ ap (λ x. x ∷ []) same;
      number = record { within = r.number; whole = is };
      span = record { is_from = r.from; is_to = r.to; is_value = omega (arith, r.value); whole = refl };
      value = r.value;
    }

pub entry-stands : (letter : ℕ) (behind : List ℕ) (e : Entry) (more rest : List ℕ) →
    IsKind letter e.site → IsNumberBefore behind (site_number (plain_site e.site)) more →
    IsSpanThen more e.from e.to e.value rest → e.value ≤ most_missing →
    Begins (letter ∷ 32 ∷ behind) (entry_line e) rest
entry-stands letter behind e more rest kind number span small = record {
  in_range = record { number = number.within; from = span.is_from; to = span.is_to; value = small };
  whole = ap (λ l. letter ∷ 32 ∷ l) (number.whole ∙ ap (λ l. decimal (site_number (plain_site e.site)) ++ (32 ∷ l)) span.whole)
      ∙ ap (λ k. k ++ (32 ∷ behind_kind e rest)) (sym kind) ∙ sym (flat e rest);
}

-- where a part of an entry isn't there, none stands
pub no-letter : (bytes : List ℕ) → ((letter : ℕ) (behind : List ℕ) → bytes ≡ letter ∷ 32 ∷ behind → ⊥) → (e : Entry) (rest : List ℕ) → Begins bytes (entry_line e) rest → ⊥
no-letter bytes none e rest b = let l = letter-at bytes e rest b in none l.letter _ l.whole

pub no-number : (letter : ℕ) (behind : List ℕ) → ((n : ℕ) (more : List ℕ) → IsNumberBefore behind n more → ⊥) → (e : Entry) (rest : List ℕ) → Begins (letter ∷ 32 ∷ behind) (entry_line e) rest → ⊥
no-number letter behind none e rest b = none (site_number (plain_site e.site)) (behind_number e rest) (parts-at letter behind e rest b).number

pub no-site : (letter : ℕ) (behind : List ℕ) → ((s : Site) → IsKind letter s → ⊥) → (e : Entry) (rest : List ℕ) → Begins (letter ∷ 32 ∷ behind) (entry_line e) rest → ⊥
no-site letter behind none e rest b = none e.site (parts-at letter behind e rest b).is_kind

pub no-span : (letter n : ℕ) (behind more : List ℕ) → IsNumberBefore behind n more → ((from to value : ℕ) (rest : List ℕ) → IsSpanThen more from to value rest → ⊥) →
    (e : Entry) (rest : List ℕ) → Begins (letter ∷ 32 ∷ behind) (entry_line e) rest → ⊥
no-span letter n behind more number none e rest b =
    let p = parts-at letter behind e rest b in
    let same = one-number-before behind n (site_number (plain_site e.site)) more (behind_number e rest) number p.number in
    none e.from e.to e.value rest (rw same.rests p.span)

pub value-past : (letter n : ℕ) (behind more : List ℕ) (from to value : ℕ) (after : List ℕ) → IsNumberBefore behind n more → IsSpanThen more from to value after → most_missing < value →
    (e : Entry) (rest : List ℕ) → Begins (letter ∷ 32 ∷ behind) (entry_line e) rest → ⊥
value-past letter n behind more from to value after number span past e rest b =
    let p = parts-at letter behind e rest b in
    let same = one-number-before behind n (site_number (plain_site e.site)) more (behind_number e rest) number p.number in
    let one = one-value more from to value after e.from e.to e.value rest span (rw same.rests p.span) in
    omega (arith, one, past, p.value)

-- what stands after is shorter
pub behind-shorter : (bytes : List ℕ) (e : Entry) (rest : List ℕ) → Begins bytes (entry_line e) rest → length rest < length bytes
behind-shorter bytes e rest b =
    let all : bytes ≡ words (entry_words e) ++ (10 ∷ rest) = b.whole ∙ append_assoc (words (entry_words e)) (10 ∷ []) rest in
    omega (arith, ap length all, length-append (words (entry_words e)) (10 ∷ rest))
