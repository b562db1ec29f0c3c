-- Rows are a barrier exactly where the rules of each site of the DTD hold.
use Rattle.std.proofs.Common.{List, None, Option, Some, arith, inl, inr, length, refl, subst, ℕ, ◌<◌, ◌≡◌, ◌≤◌, ◌↔◌}
use Rattle.std.proofs.lemmas.Bool.{cases_lt}
use Rattle.std.proofs.lemmas.Option.{slice_get_within}
use Rattle.pv_model.specs.Plain.{PlainModel, PlainPart, PlainParts, PlainToken, no_parts, part}
use Rattle.pv_dtd.specs.Plain.{PlainDtd, declared, model_of, parts_in_models}
use Rattle.pv_rules.specs.Barriers.{AreAtRows, IsBarrierAtRows}
use Rattle.pv_rules.specs.Kinds.{OfContent, OfName, OfPart, OfRest}
use Rattle.pv_rules.specs.Numbering.{part_at, rest_at}
use Rattle.pv_rules.specs.Rules.{Goal, IsKnownWord, over}
use Rattle.pv_rules.specs.Sites.{HasSite, PlainSite, content_site, name_site, part_site, rest_site}
use Rattle.pv_rules.proofs.RulesByKind.{by_kind}
use Rattle.pv_rules.proofs.Facts.{parts_by_number}
use Rattle.pv_rules.proofs.Members.{some_part}
use Rattle.pv_denial.specs.RowForms.{HoldsAt}
use Rattle.pv_denial.specs.Rows.{EachRow, IsRow, row_value}
use Rattle.pv_denial.specs.declared.denials.Row.{Row}
use Rattle.pv_denial.proofs.SiteRows.{value}

module _ (g : PlainDtd) (w : List PlainToken) (n : ℕ) (size : n ≡ length w) (rows : List Row) (each : EachRow (IsRow g n) rows) where
  -- the rules of each name and its content hold, and those of each part and of the members from it on
  abbrev pub NamesHold : Type 0
  NamesHold = (x : ℕ) → x < length g.names → HoldsAt g w rows (name_site x) × HoldsAt g w rows (content_site x)

  abbrev pub PartsHold : Type 0
  PartsHold = (q : ℕ) → q < parts_in_models g.models → HoldsAt g w rows (part_site q) × HoldsAt g w rows (rest_site q)

  module _ (named : declared g ≤ length g.names) (known : IsKnownWord g w) where
    -- a row has a value only at a site of the DTD
    has_site : (s : PlainSite) (i k : ℕ) → row_value rows s i ≡ Some k → HasSite g s
    has_site s i k e = let x = value g n rows each s i k e in let P : PlainSite → Type 0 = λ v. HasSite g v in subst P x.is_site x.is_row.has

    no_name : (x i j c : ℕ) (xs : List Goal) → length g.names ≤ x → OfName g w i j c xs x → AreAtRows (row_value rows) xs → ⊥
    no_name x i j c xs ge (inl (t, _, _, _)) at = let a = known i x t in omega arith
    no_name x i j c xs ge (inr (_, _, e)) at =
        let P : List Goal → Type 0 = λ ys. AreAtRows (row_value rows) ys in
        let a = has_site (content_site x) i j (subst P e at).0 in omega arith

    no_content : (x i j c : ℕ) (xs : List Goal) (o : Option PlainModel) → model_of g x ≡ o → length g.names ≤ x → OfContent g w i j c xs x o → ⊥
    no_content x i j c xs None e ge k = k
    no_content x i j c xs (Some m) e ge k = let a = slice_get_within g.models x m e in omega arith

    no_part : (q i j c : ℕ) (xs : List Goal) (o : Option PlainPart) → part_at g q ≡ o → parts_in_models g.models ≤ q → OfPart g w i j c xs q o → ⊥
    no_part q i j c xs None e ge k = k
    no_part q i j c xs (Some p) e ge k = let a = (parts_by_number g).within q p e in let b = some_part p in omega arith

    no_rest : (q i j c : ℕ) (xs : List Goal) (o : Option PlainParts) → rest_at g q ≡ o → parts_in_models g.models ≤ q → OfRest g w i j c xs q o → ⊥
    no_rest q i j c xs None e ge k = k
    no_rest q i j c xs (Some no_parts) e ge k = k
    no_rest q i j c xs (Some (part p ps)) e ge k = let a = (parts_by_number g).within q p ((parts_by_number g).member q p ps e) in let b = some_part p in absurd (omega arith)

    at_site : (s : PlainSite) → NamesHold → PartsHold → HoldsAt g w rows s
    at_site (name_site x) names parts i j c xs r at = elim (cases_lt x (length g.names)) [
      | inl lt ↦ (names x lt).0 i j c xs r at
      | inr ge ↦ absurd (no_name x i j c xs ge (by_kind g w (name_site x) i j c xs r) at)
    ]
    at_site (content_site x) names parts i j c xs r at = elim (cases_lt x (length g.names)) [
      | inl lt ↦ (names x lt).1 i j c xs r at
      | inr ge ↦ absurd (no_content x i j c xs (model_of g x) refl ge (by_kind g w (content_site x) i j c xs r))
    ]
    at_site (part_site q) names parts i j c xs r at = elim (cases_lt q (parts_in_models g.models)) [
      | inl lt ↦ (parts q lt).0 i j c xs r at
      | inr ge ↦ absurd (no_part q i j c xs (part_at g q) refl ge (by_kind g w (part_site q) i j c xs r))
    ]
    at_site (rest_site q) names parts i j c xs r at = elim (cases_lt q (parts_in_models g.models)) [
      | inl lt ↦ (parts q lt).1 i j c xs r at
      | inr ge ↦ absurd (no_rest q i j c xs (rest_at g q) refl ge (by_kind g w (rest_site q) i j c xs r))
    ]

    pub by_sites : (NamesHold × PartsHold) ↔ IsBarrierAtRows g w (row_value rows)
    by_sites = (
      (λ h x c xs r at. at_site x.site h.0 h.1 x.from x.to c xs r at),
      (λ b. (
        (λ x lt. ((λ i j c xs r at. b (over (name_site x) i j) c xs r at), (λ i j c xs r at. b (over (content_site x) i j) c xs r at))),
        (λ q lt. ((λ i j c xs r at. b (over (part_site q) i j) c xs r at), (λ i j c xs r at. b (over (rest_site q) i j) c xs r at))),
      )),
    )
