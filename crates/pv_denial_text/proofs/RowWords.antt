-- The words of a row are read as they are written.
use Rattle.std.proofs.Common.{◌≡◌, ◌≢◌, ℕ, List, [], ◌∷◌, ◌++◌, map, refl, sym, ap, ◌∙◌, arith, decimal, subst}
use Rattle.pv_chars.specs.Fronts.{EndsAt}
use Rattle.pv_rules.specs.PlainForms.{plain_site}
use Rattle.pv_rules.specs.Sites.{PlainSite, content_site, name_site, part_site, rest_site}
use Rattle.pv_rules.specs.declared.sites.Site.{Site}
use Rattle.pv_words.specs.Words.{words}
use Rattle.pv_words.proofs.NumberWords.{decimal-free}
use Rattle.pv_words.proofs.FirstWords.{Free, Free-append}
use Rattle.pv_tables.specs.Tables.{site_number}
use Rattle.pv_cert.specs.Fronts.{IsKind}
use Rattle.pv_words.specs.Numbers.{IsNumberBefore}
use Rattle.pv_cert.specs.Lines.{kind_word}
use Rattle.pv_words.proofs.Cuts.{cut-once, ends-once, feed-behind, one-number-before}
use Rattle.pv_cert.proofs.OneLine.{same-site}
use Rattle.pv_cert.proofs.EntryWords.{letter-by}
use Rattle.pv_denial.specs.declared.denials.Row.{Row}
use Rattle.pv_denial_text.specs.Fronts.{AreValueWords, BeginsNone, IsRowText, IsSiteBehind}
use Rattle.pv_denial_text.specs.Lines.{IsRowInRange, line_text, row_line, row_words}
use Rattle.pv_denial_text.proofs.ValueWords.{one-values, values-free}

-- what stands after the kind of a row
abbrev behind_kind : Site → List ℕ → List ℕ
behind_kind s rest = decimal (site_number (plain_site s)) ++ (32 ∷ rest)

-- the letter of a row's kind, and what stands after it
record HasLetter (line : List ℕ) (s : Site) (rest : List ℕ) : Type 0 where
  pub letter : ℕ
  pub is_kind : IsKind letter s
  pub whole : line ≡ letter ∷ 32 ∷ behind_kind s rest

has-letter : (line : List ℕ) (s : Site) (rest : List ℕ) → IsSiteBehind line s rest → HasLetter line s rest
has-letter line s rest b =
    let l = letter-by (plain_site s) in
    record { letter = l.0; is_kind = l.1; whole = b.whole ∙ ap (λ k. k ++ (32 ∷ behind_kind s rest)) l.1 }

-- what a line is that begins with a letter and a blank
record AreParts (letter : ℕ) (behind : List ℕ) (s : Site) (rest : List ℕ) : Type 0 where
  pub is_kind : IsKind letter s
  pub number : IsNumberBefore behind (site_number (plain_site s)) rest

parts-of : (letter : ℕ) (behind : List ℕ) (s : Site) (rest : List ℕ) → IsSiteBehind (letter ∷ 32 ∷ behind) s rest → AreParts letter behind s rest
parts-of letter behind s rest b =
    let l = has-letter (letter ∷ 32 ∷ behind) s rest b in
    let same : l.letter ≡ letter = cc (sym l.whole) in
    let more : behind ≡ behind_kind s rest = cc (l.whole) in
    record { is_kind = l.is_kind ∙ ap (λ b. b ∷ []) same; number = record { within = b.number; whole = more } }

pub no-letter : (line : List ℕ) → ((letter : ℕ) (rest : List ℕ) → line ≢ letter ∷ 32 ∷ rest) → (s : Site) (rest : List ℕ) → IsSiteBehind line s rest → ⊥
no-letter line none s rest b = let l = has-letter line s rest b in none l.letter _ l.whole

pub no-number : (line : List ℕ) (letter : ℕ) (behind : List ℕ) → line ≡ letter ∷ 32 ∷ behind →
    ((n : ℕ) (rest : List ℕ) → IsNumberBefore behind n rest → ⊥) → (s : Site) (rest : List ℕ) →
    IsSiteBehind line s rest → ⊥
no-number line letter behind is none s rest b =
    let P : List ℕ → Type 0 = λ l. IsSiteBehind l s rest in
    none (site_number (plain_site s)) rest (parts-of letter behind s rest (subst P is b)).number

pub no-site : (line : List ℕ) (letter : ℕ) (behind : List ℕ) → line ≡ letter ∷ 32 ∷ behind → ((s : Site) → IsKind letter s → ⊥) → (s : Site) (rest : List ℕ) → IsSiteBehind line s rest → ⊥
no-site line letter behind is none s rest b =
    let P : List ℕ → Type 0 = λ l. IsSiteBehind l s rest in
    none s (parts-of letter behind s rest (subst P is b)).is_kind

-- one site, and what stands after it
pub record SameSite (s t : Site) (x y : List ℕ) : Type 0 where
  pub sites : s ≡ t
  pub rests : x ≡ y

pub one-site : (line : List ℕ) (s t : Site) (x y : List ℕ) → IsSiteBehind line s x → IsSiteBehind line t y → SameSite s t x y
one-site line s t x y b c =
    let one = has-letter line s x b in
    let other = has-letter line t y c in
    let letters : one.letter ≡ other.letter = cc (one.whole, other.whole) in
    let behind : behind_kind s x ≡ behind_kind t y = cc (one.whole, other.whole) in
    let numbers = one-number-before (behind_kind s x) (site_number (plain_site s))
    (site_number (plain_site t)) x y record { within = b.number; whole = refl }
    record { within = c.number; whole = behind } in
    record { sites = same-site s t other.letter (one.is_kind ∙ ap (λ b. b ∷ []) letters) other.is_kind numbers.numbers; rests = numbers.rests }

-- the words of a row: its site, and its values
words-behind : (kind : List ℕ) (n : ℕ) (values : List ℕ) → values ≢ [] → words (kind ∷ decimal n ∷ map decimal values) ≡ kind ++ (32 ∷ (decimal n ++ (32 ∷ words (map decimal values))))
words-behind kind n [] some = absurd (some refl)
words-behind kind n (v ∷ vs) some = refl

-- the words of a row, as its kind and what stands after it
pub record HasKind (r : Row) : Type 0 where
  pub behind : List ℕ
  pub whole : words (row_words r) ≡ kind_word (plain_site r.site) ++ (32 ∷ behind)

pub row-whole : (r : Row) → IsRowInRange r → HasKind r
row-whole r i = record {
  behind = behind_kind r.site (words (map decimal r.values));
  whole = words-behind (kind_word (plain_site r.site)) (site_number (plain_site r.site)) r.values i.some;
}

pub row-site : (line : List ℕ) (r : Row) → IsRowText line r → IsSiteBehind line r.site (words (map decimal r.values))
row-site line r t = record { number = t.in_range.number; whole = t.whole ∙ words-behind (kind_word (plain_site r.site)) (site_number (plain_site r.site)) r.values t.in_range.some }

row-values : (r : Row) → IsRowInRange r → AreValueWords (words (map decimal r.values)) r.values
row-values r i = record { some = i.some; in_range = i.values; whole = refl }

pub no-row-values : (line : List ℕ) (s : Site) (rest : List ℕ) → IsSiteBehind line s rest → ((values : List ℕ) → AreValueWords rest values → ⊥) → (r : Row) → IsRowText line r → ⊥
no-row-values line s rest b none r t =
    let same = one-site line r.site s (words (map decimal r.values)) rest (row-site line r t) b in
    let P : List ℕ → Type 0 = λ l. AreValueWords l r.values in
    none r.values (subst P same.rests (row-values r t.in_range))

pub one-row : (line : List ℕ) (r q : Row) → IsRowText line r → IsRowText line q → r ≡ q
one-row line r q t u =
    let same = one-site line r.site q.site (words (map decimal r.values)) (words (map decimal q.values)) (row-site line r t) (row-site line q u) in
    let P : List ℕ → Type 0 = λ l. AreValueWords l r.values in
    let values = one-values (words (map decimal q.values)) r.values q.values (subst P same.rests (row-values r t.in_range)) (row-values q u.in_range) in
    λ i. record { site = same.sites i; values = values i }

-- no LF stands in the text of a row
kind-free : (s : PlainSite) → Free 10 (kind_word s)
kind-free (content_site x) = (λ same. absurd (omega arith), tt)
kind-free (name_site x) = (λ same. absurd (omega arith), tt)
kind-free (part_site q) = (λ same. absurd (omega arith), tt)
kind-free (rest_site q) = (λ same. absurd (omega arith), tt)

row-free : (r : Row) → IsRowInRange r → Free 10 (words (row_words r))
row-free r i =
    let n = site_number (plain_site r.site) in
    let P : List ℕ → Type 0 = λ l. Free 10 l in
    subst P (sym (words-behind (kind_word (plain_site r.site)) n r.values i.some))
    (Free-append 10 (kind_word (plain_site r.site)) (32 ∷ (decimal n ++ (32 ∷ words (map decimal r.values)))) (kind-free (plain_site r.site)) (
      λ same. absurd (omega arith),
      Free-append 10 (decimal n) (32 ∷ words (map decimal r.values)) (decimal-free 10 n (omega arith) i.number) (λ same. absurd (omega arith), values-free 10 r.values (omega arith) i.values),
    ))

pub other-row : (bytes line after : List ℕ) → EndsAt (10 ∷ []) bytes line after → ((r : Row) → IsRowText line r → ⊥) → BeginsNone row_line bytes
other-row bytes line after at none r rest b =
    let same = ends-once 10 bytes line after (words (row_words r)) rest at (row-free r b.in_range) (b.whole ∙ feed-behind (words (row_words r)) rest) in
    none r record { in_range = b.in_range; whole = same.fronts }

-- one row, and what stands after it
pub record SameRow (r q : Row) (x y : List ℕ) : Type 0 where
  pub rows : r ≡ q
  pub rests : x ≡ y

pub same-row : (r q : Row) (x y : List ℕ) → IsRowInRange r → IsRowInRange q → line_text (row_line r) ++ x ≡ line_text (row_line q) ++ y → SameRow r q x y
same-row r q x y i j is =
    let same = cut-once 10 (words (row_words r)) (words (row_words q)) x y (row-free r i) (row-free q j)
    (sym (feed-behind (words (row_words r)) x) ∙ is ∙ feed-behind (words (row_words q)) y) in
    record { rows = one-row (words (row_words r)) r q record { in_range = i; whole = refl } record { in_range = j; whole = same.fronts }; rests = same.rests }
