-- The rules of a site by what stands there: each rule has one of these forms. The variables are a
-- span of the word, a cost, and the right sides.
use Rattle.std.specs.Prelude.{List, None, Option, Some, [], length, slice_get, suc, ℕ, ◌+◌, ◌<◌}
use Rattle.std.specs.Prelude.{◌≡◌, ◌≤◌, ◌⊎◌, ◌∷◌}
use Rattle.pv_model.specs.Plain.{PlainModel, PlainPart, PlainParts, PlainToken, any, children}
use Rattle.pv_model.specs.Plain.{choice, empty, mixed, name, named, no_parts, opt, part, plus}
use Rattle.pv_model.specs.Plain.{seq, star, text}
use Rattle.pv_dtd.specs.Plain.{IsDeclared, PlainDtd, model_of, parts_in}
use Rattle.pv_rules.specs.Numbering.{IsMemberAt, first_part, part_at, rest_at}
use Rattle.pv_rules.specs.Rules.{Goal, IsSpan, over}
use Rattle.pv_rules.specs.Sites.{PlainSite, content_site, name_site, part_site, rest_site}

module _ (g : PlainDtd) (w : List PlainToken) (i j c : ℕ) (xs : List Goal) where
  -- nothing on the right
  abbrev pub ToNone : Type 0
  ToNone = (i ≡ j) × (j ≤ length w) × (c ≡ 0) × (xs ≡ [])

  -- one site over the same span
  abbrev pub ToOne : PlainSite → Type 0
  ToOne s = IsSpan w i j × (c ≡ 0) × (xs ≡ over s i j ∷ [])

  -- a site up to k, and one from there
  abbrev pub ToTwo : PlainSite → PlainSite → ℕ → Type 0
  ToTwo s r k = (k ≤ j) × (j ≤ length w) × (c ≡ 0) × (xs ≡ over s i k ∷ over r k j ∷ [])

  -- the content after a text
  abbrev pub ToText : ℕ → Type 0
  ToText x = (i < j) × (j ≤ length w) × (slice_get w i ≡ Some text) × (c ≡ 0) ×
      (xs ≡ over (content_site x) (suc i) j ∷ [])

  abbrev pub OfName : ℕ → Type 0
  OfName x =
      ((slice_get w i ≡ Some (named x)) × (j ≡ suc i) × (c ≡ 0) × (xs ≡ [])) ⊎
      (IsSpan w i j × (c ≡ 1) × (xs ≡ over (content_site x) i j ∷ []))

  abbrev pub OfContent : ℕ → Option PlainModel → Type 0
  OfContent x None = ⊥
  OfContent x (Some empty) = ToNone
  OfContent x (Some any) =
      ToNone ⊎ (ToText x ⊎
      ((y : ℕ) × (k : ℕ) × IsDeclared g y × (i < k) × ToTwo (name_site y) (content_site x) k))
  OfContent x (Some (mixed ys)) =
      ToNone ⊎ (ToText x ⊎
      ((e : ℕ) × (k : ℕ) × (e < length ys) × (i < k) ×
      ToTwo (part_site (first_part g x + e)) (content_site x) k))
  OfContent x (Some (children p)) = ToOne (part_site (first_part g x))

  abbrev pub OfPart : ℕ → Option PlainPart → Type 0
  OfPart q None = ⊥
  OfPart q (Some (name y)) = ToOne (name_site y)
  OfPart q (Some (seq no_parts)) = ⊥
  OfPart q (Some (seq (part p ps))) = ToOne (rest_site (suc q))
  OfPart q (Some (choice ps)) =
      (p : PlainPart) × (r : ℕ) × IsMemberAt p r (suc q) ps × ToOne (part_site r)
  OfPart q (Some (opt p)) = ToNone ⊎ ToOne (part_site (suc q))
  OfPart q (Some (star p)) =
      ToNone ⊎ ((k : ℕ) × (i < k) × ToTwo (part_site (suc q)) (part_site q) k)
  OfPart q (Some (plus p)) =
      ToOne (part_site (suc q)) ⊎
      ((k : ℕ) × (i < k) × (k < j) × ToTwo (part_site (suc q)) (part_site q) k)

  abbrev pub OfRest : ℕ → Option PlainParts → Type 0
  OfRest q None = ⊥
  OfRest q (Some no_parts) = ⊥
  OfRest q (Some (part p no_parts)) = ToOne (part_site q)
  OfRest q (Some (part p (part r ps))) =
      (k : ℕ) × (i ≤ k) × ToTwo (part_site q) (rest_site (q + parts_in p)) k

  -- the rules of a site, by what stands there
  abbrev pub OfSite : PlainSite → Type 0
  OfSite (name_site x) = OfName x
  OfSite (content_site x) = OfContent x (model_of g x)
  OfSite (part_site q) = OfPart q (part_at g q)
  OfSite (rest_site q) = OfRest q (rest_at g q)
