-- A delimiter after a text that doesn't hold it stands there for the first time, if it can't begin inside the text and end after it.
use Rattle.std.proofs.Common.{◌≡◌, ℕ, ◌+◌, ◌<◌, ◌≤◌, ⊎_elim, List, [], ◌∷◌, ◌++◌, length, refl, sym, ap, ◌∙◌, arith, length-append}
use Rattle.std.proofs.lemmas.Bool.{cases_lt}
use Rattle.pv_chars.specs.Fronts.{ContainsBytes, EndsAt}
use Rattle.pv_chars.proofs.DelimiterPlaces.{not_less}

-- What two ways to cut a list in two have to do with one another.
pub record Overlap (longer behind shorter : List ℕ) (others : List ℕ) : Type 0 where
  pub between : List ℕ
  pub front : longer ≡ shorter ++ between
  pub back : others ≡ between ++ behind

pub overlap : (xs t ys zs : List ℕ) → xs ++ t ≡ ys ++ zs → length ys ≤ length xs → Overlap xs t ys zs
overlap xs t [] zs e less = record { between = xs; front = refl; back = sym e }
overlap [] t (y ∷ ys) zs e less = absurd (omega arith)
overlap (x ∷ xs) t (y ∷ ys) zs e less =
    let head : x ≡ y = cc in
    let tail : xs ++ t ≡ ys ++ zs = cc in
    let below = overlap xs t ys zs tail (omega arith) in
    record { between = below.between; front = (λ i. head i ∷ below.front i); back = below.back }

-- no end of it begins it
abbrev pub HasNoBorder : List ℕ → Type 0
HasNoBorder part = (m n o : List ℕ) → part ≡ m ++ n → part ≡ n ++ o → 0 < length m → 0 < length n → ⊥

-- The delimiter begins inside the text and ends after it.
pub record Straddles (part text : List ℕ) : Type 0 where
  pub before : List ℕ
  pub inside : List ℕ
  pub outside : List ℕ
  pub more : List ℕ
  pub text_is : text ≡ before ++ inside
  pub part_is : part ≡ inside ++ outside
  pub begins : part ≡ outside ++ more
  pub some_inside : 0 < length inside
  pub some_outside : 0 < length outside

-- it stands earlier only inside the text, or so
earlier : (part text rest other more : List ℕ) → (ContainsBytes text part → ⊥) → (Straddles part text → ⊥) → text ++ (part ++ rest) ≡ other ++ (part ++ more) → length other < length text → ⊥
earlier part text rest other more none apart whole less =
    let o = overlap text (part ++ rest) other (part ++ more) whole (omega arith) in
    let long : length text ≡ length other + length o.between = ap length o.front ∙ length-append other o.between in
    ⊎_elim
    (λ fits.
    let p = overlap part more o.between (part ++ rest) o.back (omega arith) in
    let q = overlap part rest p.between more p.back (omega (arith, ap length p.front, length-append o.between p.between)) in
    apart record {
      before = other;
      inside = o.between;
      outside = p.between;
      more = q.between;
      text_is = o.front;
      part_is = p.front;
      begins = q.front;
      some_inside = omega arith;
      some_outside = omega (arith, ap length p.front, length-append o.between p.between);
    })
    (λ holds.
    let p = overlap o.between (part ++ rest) part more (sym o.back) holds in
    none record { before = other; after = p.between; whole = o.front ∙ ap (λ l. other ++ l) p.front })
    (cases_lt (length o.between) (length part))

pub ends_behind : (part text rest : List ℕ) → (ContainsBytes text part → ⊥) → (Straddles part text → ⊥) → EndsAt part (text ++ (part ++ rest)) text rest
ends_behind part text rest none apart = record { whole = refl; first = λ other more whole. not_less (length text) (length other) (earlier part text rest other more none apart whole) }

pub by_no_border : (part text : List ℕ) → HasNoBorder part → Straddles part text → ⊥
by_no_border part text no_border s = no_border s.inside s.outside s.more s.part_is s.begins s.some_inside s.some_outside

-- two different bytes
pub two_have_no_border : (a b : ℕ) → (a ≡ b → ⊥) → HasNoBorder (a ∷ b ∷ [])
two_have_no_border a b other [] n o e f some more = omega arith
two_have_no_border a b other (x ∷ xs) [] o e f some more = omega arith
two_have_no_border a b other (x ∷ []) (y ∷ ys) o e f some more = other cc
two_have_no_border a b other (x ∷ z ∷ xs) (y ∷ ys) o e f some more = let long = ap length e in omega (arith, length-append (x ∷ z ∷ xs) (y ∷ ys))

-- twice one byte, and another
pub three_have_no_border : (a b : ℕ) → (a ≡ b → ⊥) → HasNoBorder (a ∷ a ∷ b ∷ [])
three_have_no_border a b other [] n o e f some more = omega arith
three_have_no_border a b other (x ∷ xs) [] o e f some more = omega arith
three_have_no_border a b other (x ∷ []) (y ∷ []) o e f some more = let long = ap length e in omega arith
three_have_no_border a b other (x ∷ []) (y ∷ z ∷ ys) o e f some more = other cc
three_have_no_border a b other (x ∷ w ∷ []) (y ∷ ys) o e f some more = other cc
three_have_no_border a b other (x ∷ w ∷ v ∷ xs) (y ∷ ys) o e f some more = let long = ap length e in omega (arith, length-append (x ∷ w ∷ v ∷ xs) (y ∷ ys))
