-- Parentheses that are open before the first '>'.
use Rattle.std.proofs.Common.{◌≡◌, ◌<◌, ℕ, suc, ◌+◌, List, [], ◌∷◌, ◌++◌, codes, Bool, true, false, ◌||◌, ◌==◌, not, cond, Option, Some, None, refl, sym, ap, ◌∙◌, append_assoc, arith}
use Rattle.std.specs.Prelude.{nat_lt, nat_eq}
use Rattle.std.proofs.lemmas.Bool.{ltb-true, lt-ltb, or_right}
use Rattle.std.proofs.lemmas.Bool.Decides.{Decides-eqb}
use Rattle.pv_chars.specs.Scan.{after_bytes}
use Rattle.pv_chars.proofs.TextScans.{after_bytes_takes}
use Rattle.pv_dtd.specs.Facts.{MAX_NESTING}
use Rattle.pv_chars.specs.Declarations.{is_one_of}
use Rattle.pv_dtd.specs.Kinds.{IsTooDeep, how_many}
use Rattle.pv_dtd.specs.ItemReading.{opens_too_many, too_many_by, is_too_deep}

-- a front without '>' in which too many are open, where so many were opened and closed before it
record Opens (opened closed : ℕ) (bytes : List ℕ) : Type 0 where
  before : List ℕ
  rest : List ℕ
  whole : bytes ≡ before ++ rest
  unclosed : not (is_one_of before 62) ≡ true
  deep : MAX_NESTING + (closed + how_many 41 before) < opened + how_many 40 before

-- one more byte counts
counted : (p : Bool) (n k : ℕ) → cond p (suc n) n + k ≡ n + cond p (suc k) k
counted true n k = omega arith
counted false n k = omega arith

other_byte : (b : ℕ) → (b == 62) ≡ false → nat_eq 62 b ≡ false
other_byte b e = by (nat_eq 62 b) refl
  where
    by : (same : Bool) → nat_eq 62 b ≡ same → same ≡ false
    by true is = let at = (Decides-eqb 62 b).0 is in let back = (Decides-eqb b 62).1 (sym at) in cc
    by false is = refl

not_left : (p q : Bool) → not (p || q) ≡ true → (p ≡ false) × (not q ≡ true)
not_left true q e = cc
not_left false q e = (refl, e)

unclosed_more : (b : ℕ) (bs : List ℕ) → (b == 62) ≡ false → not (is_one_of bs 62) ≡ true → not (is_one_of (b ∷ bs) 62) ≡ true
unclosed_more b bs other unclosed = rw (other_byte b other) unclosed

-- what the test finds
finds_by : (b : ℕ) (bs : List ℕ) (opened closed : ℕ) (deep close : Bool) → nat_lt (MAX_NESTING + closed) opened ≡ deep → (b == 62) ≡ close →
    (opens_too_many (cond (b == 40) (suc opened) opened) (cond (b == 41) (suc closed) closed) bs ≡ true → Opens (cond (b == 40) (suc opened) opened) (cond (b == 41) (suc closed) closed) bs) →
    (deep || cond close false (opens_too_many (cond (b == 40) (suc opened) opened) (cond (b == 41) (suc closed) closed) bs)) ≡ true → Opens opened closed (b ∷ bs)
finds_by b bs opened closed true close is at below e = let deep = ltb-true (MAX_NESTING + closed) opened is in record { before = []; rest = b ∷ bs; whole = refl; unclosed = refl; deep = omega arith }
finds_by b bs opened closed false true is at below e = cc
finds_by b bs opened closed false false is at below e =
    let more = below e in
    record {
      before = b ∷ more.before;
      rest = more.rest;
      whole = ap (λ r. b ∷ r) more.whole;
      unclosed = unclosed_more b more.before at more.unclosed;
      deep = omega (arith, more.deep, counted (b == 40) opened (how_many 40 more.before), counted (b == 41) closed (how_many 41 more.before));
    }

finds : (bytes : List ℕ) (opened closed : ℕ) → opens_too_many opened closed bytes ≡ true → Opens opened closed bytes
finds [] opened closed e = let deep = ltb-true (MAX_NESTING + closed) opened e in record { before = []; rest = []; whole = refl; unclosed = refl; deep = omega arith }
finds (b ∷ bs) opened closed e = finds_by b bs opened closed (nat_lt (MAX_NESTING + closed) opened)
    (b == 62) refl refl (finds bs (cond (b == 40) (suc opened) opened) (cond (b == 41) (suc closed) closed)) e

-- what it must find
found : (before rest : List ℕ) (opened closed : ℕ) → not (is_one_of before 62) ≡ true →
    MAX_NESTING + (closed + how_many 41 before) < opened + how_many 40 before →
    opens_too_many opened closed (before ++ rest) ≡ true
found [] [] opened closed unclosed deep = lt-ltb (MAX_NESTING + closed) opened (omega arith)
found [] (b ∷ bs) opened closed unclosed deep = let is : nat_lt (MAX_NESTING + closed) opened ≡ true = lt-ltb (MAX_NESTING + closed) opened (omega arith) in rw is refl
found (b ∷ bs) rest opened closed unclosed deep =
    let here = not_left (nat_eq 62 b) (is_one_of bs 62) unclosed in
    let more = found bs rest (cond (b == 40) (suc opened) opened) (cond (b == 41) (suc closed) closed) here.1
    (omega (arith, deep, counted (b == 40) opened (how_many 40 bs), counted (b == 41) closed (how_many 41 bs))) in
    or_right (nat_lt (MAX_NESTING + closed) opened) _ (by (b == 62) refl here.0 more)
  where
    by : (close : Bool) → (b == 62) ≡ close → nat_eq 62 b ≡ false →
        opens_too_many (cond (b == 40) (suc opened) opened) (cond (b == 41) (suc closed) closed) (bs
        ++ rest) ≡ true → cond close false (opens_too_many (cond (b == 40) (suc opened) opened)
        (cond (b == 41) (suc closed) closed) (bs ++ rest)) ≡ true
    by true is other more = let at = (Decides-eqb b 62).0 is in let back = (Decides-eqb 62 b).1 (sym at) in cc
    by false is other more = more

too_deep_by : (place : List ℕ) (o : Option (List ℕ)) → after_bytes (codes "<!ELEMENT") place ≡ o → too_many_by o ≡ true → IsTooDeep place
too_deep_by place None is e = cc
too_deep_by place (Some inside) is e =
    let opens = finds inside 0 0 e in
    record {
      before = opens.before;
      rest = opens.rest;
      whole = after_bytes_takes (codes "<!ELEMENT")
          place inside is ∙ ap (λ i. codes "<!ELEMENT" ++ i) opens.whole
          ∙ sym (append_assoc (codes "<!ELEMENT") opens.before opens.rest);
      unclosed = opens.unclosed;
      deep = omega (arith, opens.deep);
    }

pub too_deep_read : (place : List ℕ) → is_too_deep place ≡ true → IsTooDeep place
unfolding is_too_deep
too_deep_read place e = too_deep_by place (after_bytes (codes "<!ELEMENT") place) refl e

pub too_deep_is_read : (place : List ℕ) → IsTooDeep place → is_too_deep place ≡ true
unfolding is_too_deep
too_deep_is_read place t =
    let whole : place ≡ codes "<!ELEMENT" ++ (t.before ++ t.rest) = t.whole ∙ append_assoc (codes "<!ELEMENT") t.before t.rest in
    ap (λ p. too_many_by (after_bytes (codes "<!ELEMENT") p)) whole ∙ found t.before t.rest 0 0 t.unclosed (omega (arith, t.deep))
