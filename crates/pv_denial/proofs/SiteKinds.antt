-- All rules of a site hold exactly where its rows hold under the rules of what stands there.
use Rattle.std.proofs.Common.{List, None, Option, Some, [], arith, inl, inr, length, refl, subst, suc, ℕ, ◌+◌, ◌<◌, ◌≡◌, ◌↔◌}
use Rattle.pv_model.specs.Plain.{PlainModel, PlainPart, PlainParts, PlainToken, any, children, choice, empty, mixed, name, no_parts, opt, part, plus, seq, star}
use Rattle.pv_dtd.specs.Plain.{IsDeclared, PlainDtd, model_of, parts_in}
use Rattle.pv_rules.specs.Barriers.{AreAtRows, IsWithinRows}
use Rattle.pv_rules.specs.Kinds.{OfContent, OfName, OfPart, OfRest, OfSite}
use Rattle.pv_rules.specs.Numbering.{IsMemberAt, first_part, part_at, rest_at}
use Rattle.pv_rules.specs.Rules.{Goal, over}
use Rattle.pv_rules.specs.Sites.{PlainSite, content_site, name_site, part_site, rest_site}
use Rattle.pv_rules.proofs.RulesByKind.{by_kind, from_kind}
use Rattle.pv_denial.specs.RowForms.{HoldsAt, HoldsKept, HoldsNoSide, HoldsOneSide, HoldsOverTexts, HoldsTwoSides}
use Rattle.pv_denial.specs.Rows.{EachRow, IsRow, row_value}
use Rattle.pv_denial.specs.declared.denials.Row.{Row}
use Rattle.pv_denial.proofs.RowRules.{from_again, from_more, from_none, from_one, from_text, from_then, let_again, let_more, let_none, let_one, let_text, let_then}
use Rattle.pv_denial.proofs.SiteRows.{past_within, within_past}

module _ (g : PlainDtd) (w : List PlainToken) (n : ℕ) (size : n ≡ length w) (rows : List Row) (each : EachRow (IsRow g n) rows) where
  abbrev Within : PlainSite → ℕ → ℕ → Type 0
  Within s i j = IsWithinRows (row_value rows) (over s i j)

  abbrev At : List Goal → Type 0
  At xs = AreAtRows (row_value rows) xs

  -- from what stands at a site to its rules, and back
  from_rules : (s : PlainSite) → HoldsAt g w rows s → (i j c : ℕ) (xs : List Goal) → OfSite g w i j c xs s → At xs → Within s i j
  from_rules s h i j c xs k at = h i j c xs (from_kind g w s i j c xs k) at

  to_rules : (s : PlainSite) → ((i j c : ℕ) (xs : List Goal) → OfSite g w i j c xs s → At xs → Within s i j) → HoldsAt g w rows s
  to_rules s h i j c xs r at = h i j c xs (by_kind g w s i j c xs r) at

  name_let : (x : ℕ) → HoldsKept rows x w → HoldsOneSide rows (name_site x) (content_site x) n → (i j c : ℕ) (xs : List Goal) → OfName g w i j c xs x → At xs → Within (name_site x) i j
  name_let x h o i j c xs (inl (t, e, _, _)) at = past_within rows (name_site x) i j (let a = h i t in omega arith)
  name_let x h o i j c xs (inr (span, _, e)) at = let_one g w n size rows each (name_site x) (content_site x) o i j 0 xs (span, refl, e) at

  pub holds_name : (x : ℕ) → (HoldsKept rows x w × HoldsOneSide rows (name_site x) (content_site x) n) ↔ HoldsAt g w rows (name_site x)
  holds_name x = (
    (λ h. to_rules (name_site x) (name_let x h.0 h.1)),
    (λ h. (
      (λ i t. within_past rows (name_site x) i (suc i) (from_rules (name_site x) h i (suc i) 0 [] (inl (t, refl, refl, refl)) tt)),
      from_one g w n size rows each (name_site x) (content_site x) (λ i j c xs (span, _, e) at. from_rules (name_site x) h i j 1 xs (inr (span, refl, e)) at),
    )),
  )

  -- of the content of a name, by its model
  abbrev pub HoldsContent : ℕ → Option PlainModel → Type 0
  HoldsContent x None = Unit {0}
  HoldsContent x (Some empty) = HoldsNoSide rows (content_site x) n
  HoldsContent x (Some any) = HoldsNoSide rows (content_site x) n × HoldsOverTexts rows (content_site x) w ×
      ((y : ℕ) → IsDeclared g y → HoldsTwoSides rows (content_site x) (name_site y) (content_site x) n)
  HoldsContent x (Some (mixed ys)) = HoldsNoSide rows (content_site x) n × HoldsOverTexts rows (content_site x) w ×
      ((e : ℕ) → e < length ys → HoldsTwoSides rows (content_site x) (part_site (first_part g x + e)) (content_site x) n)
  HoldsContent x (Some (children p)) = HoldsOneSide rows (content_site x) (part_site (first_part g x)) n

  content_let : (x : ℕ) (o : Option PlainModel) → HoldsContent x o → (i j c : ℕ) (xs : List Goal) → OfContent g w i j c xs x o → At xs → Within (content_site x) i j
  content_let x None h i j c xs k at = absurd k
  content_let x (Some empty) h i j c xs k at = let_none g w n size rows each (content_site x) h i j c xs k at
  content_let x (Some any) h i j c xs (inl k) at = let_none g w n size rows each (content_site x) h.0 i j c xs k at
  content_let x (Some any) h i j c xs (inr (inl k)) at = let_text g w n size rows each x h.1 i j c xs k at
  content_let x (Some any) h i j c xs (inr (inr (y, k, d, lt, t))) at = let_more g w n size rows each (content_site x) (name_site y) (h.2 y d) i j c xs (k, lt, t) at
  content_let x (Some (mixed ys)) h i j c xs (inl k) at = let_none g w n size rows each (content_site x) h.0 i j c xs k at
  content_let x (Some (mixed ys)) h i j c xs (inr (inl k)) at = let_text g w n size rows each x h.1 i j c xs k at
  content_let x (Some (mixed ys)) h i j c xs (inr (inr (e, k, d, lt, t))) at = let_more g w n size rows each (content_site x) (part_site (first_part g x + e)) (h.2 e d) i j c xs (k, lt, t) at
  content_let x (Some (children p)) h i j c xs k at = let_one g w n size rows each (content_site x) (part_site (first_part g x)) h i j c xs k at

  content_from : (x : ℕ) (o : Option PlainModel) → ((i j c : ℕ) (xs : List Goal) → OfContent g w i j c xs x o → At xs → Within (content_site x) i j) → HoldsContent x o
  content_from x None h = tt
  content_from x (Some empty) h = from_none g w n size rows each (content_site x) h
  content_from x (Some any) h = (
    from_none g w n size rows each (content_site x) (λ i j c xs k at. h i j c xs (inl k) at),
    from_text g w n size rows each x (λ i j c xs k at. h i j c xs (inr (inl k)) at),
    (λ y d. from_more g w n size rows each (content_site x) (name_site y) (λ i j c xs (k, lt, t) at. h i j c xs (inr (inr (y, k, d, lt, t))) at)),
  )
  content_from x (Some (mixed ys)) h = (
    from_none g w n size rows each (content_site x) (λ i j c xs k at. h i j c xs (inl k) at),
    from_text g w n size rows each x (λ i j c xs k at. h i j c xs (inr (inl k)) at),
    (λ e d. from_more g w n size rows each (content_site x) (part_site (first_part g x + e)) (λ i j c xs (k, lt, t) at. h i j c xs (inr (inr (e, k, d, lt, t))) at)),
  )
  content_from x (Some (children p)) h = from_one g w n size rows each (content_site x) (part_site (first_part g x)) h

  pub holds_content : (x : ℕ) (o : Option PlainModel) → model_of g x ≡ o → HoldsContent x o ↔ HoldsAt g w rows (content_site x)
  holds_content x o e =
      let P : Option PlainModel → Type 0 = λ m. HoldsContent x m ↔ HoldsAt g w rows (content_site x) in
      subst P e (
        (λ h. to_rules (content_site x) (content_let x (model_of g x) h)),
        (λ h. content_from x (model_of g x) (from_rules (content_site x) h)),
      )

  -- of a part
  abbrev pub HoldsPart : ℕ → Option PlainPart → Type 0
  HoldsPart q None = Unit {0}
  HoldsPart q (Some (name y)) = HoldsOneSide rows (part_site q) (name_site y) n
  HoldsPart q (Some (seq no_parts)) = Unit {0}
  HoldsPart q (Some (seq (part p ps))) = HoldsOneSide rows (part_site q) (rest_site (suc q)) n
  HoldsPart q (Some (choice ps)) = (p : PlainPart) (r : ℕ) → IsMemberAt p r (suc q) ps → HoldsOneSide rows (part_site q) (part_site r) n
  HoldsPart q (Some (opt p)) = HoldsNoSide rows (part_site q) n × HoldsOneSide rows (part_site q) (part_site (suc q)) n
  HoldsPart q (Some (star p)) = HoldsNoSide rows (part_site q) n × HoldsTwoSides rows (part_site q) (part_site (suc q)) (part_site q) n
  HoldsPart q (Some (plus p)) = HoldsOneSide rows (part_site q) (part_site (suc q)) n × HoldsTwoSides rows (part_site q) (part_site (suc q)) (part_site q) n

  part_let : (q : ℕ) (o : Option PlainPart) → HoldsPart q o → (i j c : ℕ) (xs : List Goal) → OfPart g w i j c xs q o → At xs → Within (part_site q) i j
  part_let q None h i j c xs k at = absurd k
  part_let q (Some (name y)) h i j c xs k at = let_one g w n size rows each (part_site q) (name_site y) h i j c xs k at
  part_let q (Some (seq no_parts)) h i j c xs k at = absurd k
  part_let q (Some (seq (part p ps))) h i j c xs k at = let_one g w n size rows each (part_site q) (rest_site (suc q)) h i j c xs k at
  part_let q (Some (choice ps)) h i j c xs (p, r, m, k) at = let_one g w n size rows each (part_site q) (part_site r) (h p r m) i j c xs k at
  part_let q (Some (opt p)) h i j c xs (inl k) at = let_none g w n size rows each (part_site q) h.0 i j c xs k at
  part_let q (Some (opt p)) h i j c xs (inr k) at = let_one g w n size rows each (part_site q) (part_site (suc q)) h.1 i j c xs k at
  part_let q (Some (star p)) h i j c xs (inl k) at = let_none g w n size rows each (part_site q) h.0 i j c xs k at
  part_let q (Some (star p)) h i j c xs (inr k) at = let_more g w n size rows each (part_site q) (part_site (suc q)) h.1 i j c xs k at
  part_let q (Some (plus p)) h i j c xs (inl k) at = let_one g w n size rows each (part_site q) (part_site (suc q)) h.0 i j c xs k at
  part_let q (Some (plus p)) h i j c xs (inr k) at = let_again g w n size rows each (part_site q) (part_site (suc q)) h.1 i j c xs k at

  part_from : (q : ℕ) (o : Option PlainPart) → ((i j c : ℕ) (xs : List Goal) → OfPart g w i j c xs q o → At xs → Within (part_site q) i j) → HoldsPart q o
  part_from q None h = tt
  part_from q (Some (name y)) h = from_one g w n size rows each (part_site q) (name_site y) h
  part_from q (Some (seq no_parts)) h = tt
  part_from q (Some (seq (part p ps))) h = from_one g w n size rows each (part_site q) (rest_site (suc q)) h
  part_from q (Some (choice ps)) h = λ p r m. from_one g w n size rows each (part_site q) (part_site r) (λ i j c xs k at. h i j c xs (p, r, m, k) at)
  part_from q (Some (opt p)) h = (
    from_none g w n size rows each (part_site q) (λ i j c xs k at. h i j c xs (inl k) at),
    from_one g w n size rows each (part_site q) (part_site (suc q)) (λ i j c xs k at. h i j c xs (inr k) at),
  )
  part_from q (Some (star p)) h = (
    from_none g w n size rows each (part_site q) (λ i j c xs k at. h i j c xs (inl k) at),
    from_more g w n size rows each (part_site q) (part_site (suc q)) (λ i j c xs k at. h i j c xs (inr k) at),
  )
  part_from q (Some (plus p)) h =
      let one = from_one g w n size rows each (part_site q) (part_site (suc q)) (λ i j c xs k at. h i j c xs (inl k) at) in
      (one, from_again g w n size rows each (part_site q) (part_site (suc q)) one (λ i j c xs k at. h i j c xs (inr k) at))

  pub holds_part : (q : ℕ) (o : Option PlainPart) → part_at g q ≡ o → HoldsPart q o ↔ HoldsAt g w rows (part_site q)
  holds_part q o e =
      let P : Option PlainPart → Type 0 = λ m. HoldsPart q m ↔ HoldsAt g w rows (part_site q) in
      subst P e (
        (λ h. to_rules (part_site q) (part_let q (part_at g q) h)),
        (λ h. part_from q (part_at g q) (from_rules (part_site q) h)),
      )

  -- of the members of a sequence from one on
  abbrev pub HoldsRest : ℕ → Option PlainParts → Type 0
  HoldsRest q None = Unit {0}
  HoldsRest q (Some no_parts) = Unit {0}
  HoldsRest q (Some (part p no_parts)) = HoldsOneSide rows (rest_site q) (part_site q) n
  HoldsRest q (Some (part p (part r ps))) = HoldsTwoSides rows (rest_site q) (part_site q) (rest_site (q + parts_in p)) n

  rest_let : (q : ℕ) (o : Option PlainParts) → HoldsRest q o → (i j c : ℕ) (xs : List Goal) → OfRest g w i j c xs q o → At xs → Within (rest_site q) i j
  rest_let q None h i j c xs k at = absurd k
  rest_let q (Some no_parts) h i j c xs k at = absurd k
  rest_let q (Some (part p no_parts)) h i j c xs k at = let_one g w n size rows each (rest_site q) (part_site q) h i j c xs k at
  rest_let q (Some (part p (part r ps))) h i j c xs k at = let_then g w n size rows each (rest_site q) (part_site q) (rest_site (q + parts_in p)) h i j c xs k at

  rest_from : (q : ℕ) (o : Option PlainParts) → ((i j c : ℕ) (xs : List Goal) → OfRest g w i j c xs q o → At xs → Within (rest_site q) i j) → HoldsRest q o
  rest_from q None h = tt
  rest_from q (Some no_parts) h = tt
  rest_from q (Some (part p no_parts)) h = from_one g w n size rows each (rest_site q) (part_site q) h
  rest_from q (Some (part p (part r ps))) h = from_then g w n size rows each (rest_site q) (part_site q) (rest_site (q + parts_in p)) h

  pub holds_rest : (q : ℕ) (o : Option PlainParts) → rest_at g q ≡ o → HoldsRest q o ↔ HoldsAt g w rows (rest_site q)
  holds_rest q o e =
      let P : Option PlainParts → Type 0 = λ m. HoldsRest q m ↔ HoldsAt g w rows (rest_site q) in
      subst P e (
        (λ h. to_rules (rest_site q) (rest_let q (rest_at g q) h)),
        (λ h. rest_from q (rest_at g q) (from_rules (rest_site q) h)),
      )
