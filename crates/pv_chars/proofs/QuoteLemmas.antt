-- Values in quotes, read from the front.
use Rattle.std.proofs.Common.{◌≡◌, ℕ, List, [], ◌∷◌, ◌++◌, true, false, length, refl, sym, ap, ◌∙◌, arith, append_assoc, length-append}
use Rattle.pv_chars.specs.Fronts.{Begins, ContainsBytes, EndsAt}
use Rattle.pv_chars.specs.Declarations.{is_quote, IsQuoted, BeginsNoQuoted}
use Rattle.pv_chars.proofs.DelimiterPlaces.{same_end}
use Rattle.pv_chars.proofs.FirstDelimiters.{HasNoBorder, ends_behind, by_no_border}
use Rattle.pv_chars.proofs.MarkupLemmas.{none_before_end}

one_has_no_border : (a : ℕ) → HasNoBorder (a ∷ [])
one_has_no_border a [] n o e f some more = omega arith
one_has_no_border a (x ∷ xs) [] o e f some more = omega arith
one_has_no_border a (x ∷ xs) (y ∷ ys) o e f some more = let long = ap length e in omega (arith, length-append (x ∷ xs) (y ∷ ys))

-- where the quote closes
pub quoted_ends : (bytes inside value rest : List ℕ) (quote : ℕ) → bytes ≡ quote ∷ inside → (b : Begins (IsQuoted value) bytes rest) → (is_quote quote ≡ true) × EndsAt (quote ∷ []) inside value rest
quoted_ends bytes inside value rest quote e b =
    let i = b.is_item in
    let own : quote ∷ inside ≡ i.quote ∷ (value ++ (i.quote ∷ rest)) = sym e ∙ b.whole ∙ ap (λ l. l ++ rest) i.whole ∙ ap (λ l. i.quote ∷ l) (append_assoc value (i.quote ∷ []) rest) in
    let same : i.quote ≡ quote = cc in
    let within : inside ≡ value ++ (i.quote ∷ rest) = cc in
    (rw (← same) i.is_quote, rw (← same, within) (ends_behind (i.quote ∷ []) value rest i.not_inside (by_no_border (i.quote ∷ []) value (one_has_no_border i.quote))))

pub quoted_by : (bytes inside value rest : List ℕ) (quote : ℕ) → bytes ≡ quote ∷ inside → is_quote quote ≡ true → EndsAt (quote ∷ []) inside value rest → Begins (IsQuoted value) bytes rest
quoted_by bytes inside value rest quote e is ends = record {
  item = quote ∷ (value ++ quote ∷ []);
  is_item = record { quote = quote; is_quote = is; not_inside = none_before_end (quote ∷ []) inside value rest (omega arith) ends; whole = refl };
  whole = e ∙ ap (λ l. quote ∷ l) (ends.whole ∙ sym (append_assoc value (quote ∷ []) rest));
}

-- where none begins
pub no_quoted_in_nothing : (bytes : List ℕ) → bytes ≡ [] → BeginsNoQuoted bytes
no_quoted_in_nothing bytes e value rest b = let i = b.is_item in let some : [] ≡ i.quote ∷ (value ++ i.quote ∷ []) ++ rest = sym e ∙ b.whole ∙ ap (λ l. l ++ rest) i.whole in cc

pub no_quoted_by_other : (bytes inside : List ℕ) (quote : ℕ) → bytes ≡ quote ∷ inside → is_quote quote ≡ false → BeginsNoQuoted bytes
no_quoted_by_other bytes inside quote e other value rest b = let is = (quoted_ends bytes inside value rest quote e b).0 in cc

pub no_quoted_by_end : (bytes inside : List ℕ) (quote : ℕ) → bytes ≡ quote ∷ inside → (ContainsBytes inside (quote ∷ []) → ⊥) → BeginsNoQuoted bytes
no_quoted_by_end bytes inside quote e none value rest b = let ends = (quoted_ends bytes inside value rest quote e b).1 in none record { before = value; after = rest; whole = ends.whole }

-- value and rest are determined
pub same_quoted : (bytes value rest other more : List ℕ) → Begins (IsQuoted value) bytes rest → Begins (IsQuoted other) bytes more → (value ≡ other) × (rest ≡ more)
same_quoted bytes value rest other more a b =
    let i = a.is_item in
    let inside = (value ++ i.quote ∷ []) ++ rest in
    let e : bytes ≡ i.quote ∷ inside = a.whole ∙ ap (λ l. l ++ rest) i.whole in
    same_end (i.quote ∷ []) inside value rest other more (quoted_ends bytes inside value rest i.quote e a).1 (quoted_ends bytes inside other more i.quote e b).1
