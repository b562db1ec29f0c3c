-- What stands in columns can be looked up: that it fits is known where it is known that there is a proof of it.
use Rattle.std.specs.Coded.{Coded-set, coded_bool, coded_list, coded_ℕ}
use Rattle.std.proofs.Common.{Bool, List, None, Option, Some, [], ap, arith, false, inl, inr, length, refl, suc, sym, true, zero, ℕ, ◌+◌, ◌<◌, ◌∙◌, ◌∷◌, ◌≡◌, ◌≢◌}
use Rattle.std.proofs.Math.Logic.{∥∥₁_elim, ∥∥₁_map}
use Rattle.std.proofs.lemmas.Bool.{cases_lt}
use Rattle.std.proofs.lemmas.Option.{slice_get_within}
use Rattle.pv_model.specs.Plain.{PlainModel, PlainPart, PlainParts, any, children, choice, empty, mixed, name, no_parts, opt, part, plus, seq, star}
use Rattle.pv_dtd.specs.Plain.{IsDeclared, PlainDtd, declared, model_of, parts_in}
use Rattle.pv_rules.specs.Numbering.{IsMemberAt, first_part, here, later, part_at, rest_at}
use Rattle.pv_rules.proofs.Members.{member_within, some_part}
use Rattle.pv_rules.specs.Sites.{content_site, name_site, part_site, rest_site}
use Rattle.pv_productive.specs.PlainForms.{dtd_of}
use Rattle.pv_layout.specs.ColumnRules.{IsOneOf}
use Rattle.pv_layout.specs.Columns.{AreColumns, AreFit, FitsContent, FitsPart, FitsRest, HoldsMixed, IsMember, PlainSites, column_at, column_of}
use Rattle.pv_layout.specs.FormForms.{plain_all}
use Rattle.pv_layout.specs.Forms.{PlainForm, form_at, of_element, of_none, of_nothing, of_one, of_opt, of_plus, of_star, of_two}
use Rattle.pv_layout.specs.SiteForms.{plain_sites}
use Rattle.pv_layout.specs.declared.layout.ColumnLayout.{ColumnLayout}
use Rattle.pv_layout.proofs.PutValues.{same_or_not}

number_held : (x y : ℕ) → ∥ x ≡ y ∥₁ → x ≡ y
number_held x y h = ∥∥₁_elim h (Coded-set coded_ℕ x y) (λ e. e)

numbers_held : (xs ys : List ℕ) → ∥ xs ≡ ys ∥₁ → xs ≡ ys
numbers_held xs ys h = ∥∥₁_elim h (Coded-set (coded_list coded_ℕ) xs ys) (λ e. e)

flag_held : (x y : Bool) → ∥ x ≡ y ∥₁ → x ≡ y
flag_held x y h = ∥∥₁_elim h (Coded-set coded_bool x y) (λ e. e)

nothing_held : {A : Type 0} → ∥ A ∥₁ → (A → ⊥) → ⊥
nothing_held h f = ∥∥₁_elim h (λ v. absurd v) f

form_held : (p q : PlainForm) → ∥ p ≡ q ∥₁ → p ≡ q
form_held of_none of_none h = refl
form_held of_nothing of_nothing h = refl
form_held (of_element x d) (of_element y e) h =
    let a : x ≡ y = number_held x y (∥∥₁_map h (λ (r : of_element x d ≡ of_element y e). cc)) in
    let b : d ≡ e = number_held d e (∥∥₁_map h (λ (r : of_element x d ≡ of_element y e). cc)) in rw (a, b) refl
form_held (of_one ds) (of_one es) h = ap of_one (numbers_held ds es (∥∥₁_map h (λ (r : of_one ds ≡ of_one es). cc)))
form_held (of_opt d) (of_opt e) h = ap of_opt (number_held d e (∥∥₁_map h (λ (r : of_opt d ≡ of_opt e). cc)))
form_held (of_star d b) (of_star e c) h =
    let i : d ≡ e = number_held d e (∥∥₁_map h (λ (r : of_star d b ≡ of_star e c). cc)) in
    let j : b ≡ c = flag_held b c (∥∥₁_map h (λ (r : of_star d b ≡ of_star e c). cc)) in rw (i, j) refl
form_held (of_plus d) (of_plus e) h = ap of_plus (number_held d e (∥∥₁_map h (λ (r : of_plus d ≡ of_plus e). cc)))
form_held (of_two x d) (of_two y e) h =
    let a : x ≡ y = number_held x y (∥∥₁_map h (λ (r : of_two x d ≡ of_two y e). cc)) in
    let b : d ≡ e = number_held d e (∥∥₁_map h (λ (r : of_two x d ≡ of_two y e). cc)) in rw (a, b) refl
form_held p q h = absurd (nothing_held h (λ r. cc))

-- a column is looked up among others
behind : (d x : ℕ) (ds : List ℕ) → x ≢ d → IsOneOf d (x ∷ ds) → IsOneOf d ds
behind d x ds ne (zero, e) = absurd (ne cc)
behind d x ds ne (suc k, e) = (k, e)

among_held : (d : ℕ) (ds : List ℕ) → ∥ IsOneOf d ds ∥₁ → IsOneOf d ds
among_held d [] h = absurd (nothing_held h (λ (a : IsOneOf d []). let z = slice_get_within [] a.0 d a.1 in omega arith))
among_held d (x ∷ ds) h = elim (same_or_not x d) [
  | inl e ↦ (0, ap Some e)
  | inr ne ↦ (let r = among_held d ds (∥∥₁_map h (behind d x ds ne)) in (suc r.0, r.1))
]

-- and so is the number that has one
abbrev Has : (ℕ → Type 0) → (ℕ → ℕ) → ℕ → Type 0
Has P column d = (k : ℕ) × P k × (d ≡ column k)

below_less : (n d : ℕ) (column : ℕ → ℕ) → d ≢ column n → Has (λ k. k < suc n) column d → Has (λ k. k < n) column d
below_less n d column ne (k, l, e) = elim (cases_lt k n) [
  | inl lt ↦ (k, lt, e)
  | inr ge ↦ absurd (ne (let z : k ≡ n = omega arith in e ∙ ap column z))
]

below_held : (n : ℕ) (column : ℕ → ℕ) (d : ℕ) → ∥ Has (λ k. k < n) column d ∥₁ → Has (λ k. k < n) column d
below_held zero column d h = absurd (nothing_held h (λ (a : Has (λ k. k < 0) column d). let l = a.1 in omega arith))
below_held (suc n) column d h = elim (same_or_not d (column n)) [
  | inl e ↦ (n, omega arith, e)
  | inr ne ↦ (let r = below_held n column d (∥∥₁_map h (below_less n d column ne)) in (r.0, let l = r.1 in omega arith, r.2))
]

abbrev HasMember : (ℕ → ℕ) → ℕ → ℕ → PlainParts → Type 0
HasMember column d q ps = (r : ℕ) × ((p : PlainPart) × IsMemberAt p r q ps) × (d ≡ column r)

no_member : (p : PlainPart) (r q : ℕ) → IsMemberAt p r q no_parts → ⊥
no_member p r q m = let w = member_within p r q no_parts m in let z = some_part p in absurd (omega arith)

member_behind : (column : ℕ → ℕ) (d q : ℕ) (o : PlainPart) (ps : PlainParts) → d ≢ column q → HasMember column d q (part o ps) → HasMember column d (q + parts_in o) ps
member_behind column d q o ps ne (r, (p, here _ _ e), f) = absurd (ne (f ∙ ap column (sym e)))
member_behind column d q o ps ne (r, (p, later _ _ _ m), f) = (r, (p, m), f)

member_held : (column : ℕ → ℕ) (d q : ℕ) (ps : PlainParts) → ∥ HasMember column d q ps ∥₁ → HasMember column d q ps
member_held column d q no_parts h = absurd (nothing_held h (λ (a : HasMember column d q no_parts). no_member a.1.0 a.0 q a.1.1))
member_held column d q (part o ps) h = elim (same_or_not d (column q)) [
  | inl e ↦ (q, (o, here q ps refl), e)
  | inr ne ↦ (let r = member_held column d (q + parts_in o) ps (∥∥₁_map h (member_behind column d q o ps ne)) in (r.0, (r.1.0, later q o ps r.1.1), r.2))
]

columns_held : (P : ℕ → Type 0) (column : ℕ → ℕ) (ds : List ℕ) → ((d : ℕ) → ∥ Has P column d ∥₁ → Has P column d) → ∥ AreColumns P column ds ∥₁ → AreColumns P column ds
columns_held P column ds look h = record {
  each = λ k p. among_held (column k) ds (∥∥₁_map h (λ (a : AreColumns P column ds). a.each k p));
  only = λ n d e. look d (∥∥₁_map h (λ (a : AreColumns P column ds). a.only n d e));
}

module _ (g : PlainDtd) (m : PlainSites) (f : List PlainForm) where
  abbrev H : ℕ → PlainForm → Type 0
  H c p = form_at f c ≡ p

  abbrev starred : PlainForm → ℕ
  starred of_none = 0
  starred (of_element x d) = 0
  starred of_nothing = 0
  starred (of_one ds) = 0
  starred (of_opt d) = 0
  starred (of_star d texts) = d
  starred (of_plus d) = 0
  starred (of_two d e) = 0

  abbrev listed : PlainForm → List ℕ
  listed of_none = []
  listed (of_element x d) = []
  listed of_nothing = []
  listed (of_one ds) = ds
  listed (of_opt d) = []
  listed (of_star d texts) = []
  listed (of_plus d) = []
  listed (of_two d e) = []

  module _ (P : ℕ → Type 0) (column : ℕ → ℕ) (c : ℕ) where
    abbrev Mixed : ℕ → List ℕ → Type 0
    Mixed d ds = H c (of_star d true) × H d (of_one ds) × AreColumns P column ds

    abbrev inner : ℕ
    inner = starred (form_at f c)

    looked_up : HoldsMixed g m H c P column → Mixed inner (listed (form_at f inner))
    looked_up (d, ds, p, q, r) =
        let a : inner ≡ d = ap starred p in
        let b : listed (form_at f d) ≡ ds = ap listed q in
        rw a (rw b (p, q, r))

    mixed_held : ((d : ℕ) → ∥ Has P column d ∥₁ → Has P column d) → ∥ HoldsMixed g m H c P column ∥₁ → HoldsMixed g m H c P column
    mixed_held look h =
        let t : ∥ Mixed inner (listed (form_at f inner)) ∥₁ = ∥∥₁_map h looked_up in (
          inner,
          listed (form_at f inner),
          form_held (form_at f c) (of_star inner true) (∥∥₁_map t (λ (x : Mixed inner (listed (form_at f inner))). x.0)),
          form_held (form_at f inner) (of_one (listed (form_at f inner))) (∥∥₁_map t (λ (x : Mixed inner (listed (form_at f inner))). x.1)),
          columns_held P column (listed (form_at f inner)) look (∥∥₁_map t (λ (x : Mixed inner (listed (form_at f inner))). x.2)),
        )

  content_held : (c x : ℕ) (o : Option PlainModel) → ∥ FitsContent g m H c x o ∥₁ → FitsContent g m H c x o
  content_held c x None h = form_held (form_at f c) of_none h
  content_held c x (Some empty) h = form_held (form_at f c) of_nothing h
  content_held c x (Some any) h = mixed_held (IsDeclared g) (column_at m.names) c (below_held (declared g) (column_at m.names)) h
  content_held c x (Some (mixed ys)) h =
      mixed_held (λ e. e < length ys) (λ e. column_at m.parts (first_part g x + e)) c (below_held (length ys) (λ e. column_at m.parts (first_part g x + e))) h
  content_held c x (Some (children p)) h = number_held c (column_of m (part_site (first_part g x))) h

  abbrev Chosen : ℕ → ℕ → PlainParts → List ℕ → Type 0
  Chosen c q ps ds = H c (of_one ds) × AreColumns (IsMember q ps) (column_at m.parts) ds

  chosen : (c q : ℕ) (ps : PlainParts) → FitsPart g m H c q (Some (choice ps)) → Chosen c q ps (listed (form_at f c))
  chosen c q ps (ds, p, r) = let b : listed (form_at f c) ≡ ds = ap listed p in rw b (p, r)

  part_held : (c q : ℕ) (o : Option PlainPart) → ∥ FitsPart g m H c q o ∥₁ → FitsPart g m H c q o
  part_held c q None h = form_held (form_at f c) of_none h
  part_held c q (Some (name y)) h = number_held c (column_of m (name_site y)) h
  part_held c q (Some (seq no_parts)) h = nothing_held h (λ e. e)
  part_held c q (Some (seq (part p ps))) h = number_held c (column_of m (rest_site (suc q))) h
  part_held c q (Some (choice ps)) h =
      let t : ∥ Chosen c q ps (listed (form_at f c)) ∥₁ = ∥∥₁_map h (chosen c q ps) in (
        listed (form_at f c),
        form_held (form_at f c) (of_one (listed (form_at f c))) (∥∥₁_map t (λ (x : Chosen c q ps (listed (form_at f c))). x.0)),
        columns_held (IsMember q ps) (column_at m.parts) (listed (form_at f c)) (λ d. member_held (column_at m.parts) d (suc q) ps)
            (∥∥₁_map t (λ (x : Chosen c q ps (listed (form_at f c))). x.1)),
      )
  part_held c q (Some (opt p)) h = form_held (form_at f c) (of_opt (column_of m (part_site (suc q)))) h
  part_held c q (Some (star p)) h = form_held (form_at f c) (of_star (column_of m (part_site (suc q))) false) h
  part_held c q (Some (plus p)) h = form_held (form_at f c) (of_plus (column_of m (part_site (suc q)))) h

  rest_held : (c q : ℕ) (o : Option PlainParts) → ∥ FitsRest g m H c q o ∥₁ → FitsRest g m H c q o
  rest_held c q None h = form_held (form_at f c) of_none h
  rest_held c q (Some no_parts) h = form_held (form_at f c) of_none h
  rest_held c q (Some (part p no_parts)) h = number_held c (column_of m (part_site q)) h
  rest_held c q (Some (part p (part r ps))) h = form_held (form_at f c) (of_two (column_of m (part_site q)) (column_of m (rest_site (q + parts_in p)))) h

  pub fits_held : ∥ AreFit g m f ∥₁ → AreFit g m f
  fits_held h (name_site x) has = form_held (form_at f (column_of m (name_site x))) (of_element x (column_of m (content_site x))) (∥∥₁_map h (λ (a : AreFit g m f). a (name_site x) has))
  fits_held h (content_site x) has = content_held (column_of m (content_site x)) x (model_of g x) (∥∥₁_map h (λ (a : AreFit g m f). a (content_site x) has))
  fits_held h (part_site q) has = part_held (column_of m (part_site q)) q (part_at g q) (∥∥₁_map h (λ (a : AreFit g m f). a (part_site q) has))
  fits_held h (rest_site q) has = rest_held (column_of m (rest_site q)) q (rest_at g q) (∥∥₁_map h (λ (a : AreFit g m f). a (rest_site q) has))

-- the columns of a grammar that is laid out fit it
pub layout_fits : (l : ColumnLayout) → AreFit (dtd_of l.grammar.now) (plain_sites l.sites) (plain_all l.forms.items)
layout_fits l = fits_held (dtd_of l.grammar.now) (plain_sites l.sites) (plain_all l.forms.items) l.fit
