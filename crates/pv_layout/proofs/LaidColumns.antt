-- Columns that are laid, a part or a content after another.
use Rattle.std.specs.Prelude.{IsSome, option_map}
use Rattle.std.proofs.Common.{List, None, Option, Some, [], ap, arith, false, true, get_or-set_other, get_or-set_same, inl, inr, length}
use Rattle.std.proofs.Common.{length-append, refl, set, slice_get, subst, suc, sym, ℕ, ◌++◌, ◌+◌, ◌<◌, ◌∙◌, ◌∷◌, ◌≡◌, ◌≢◌, ◌≤◌, ◌⊎◌}
use Rattle.std.proofs.Math.ListN.{get_or-append, get_or-eq_default, length-set}
use Rattle.std.proofs.Math.Seq.{get_or-append_right, get_or-append_seam}
use Rattle.std.proofs.lemmas.Bool.{cases_lt}
use Rattle.std.proofs.lemmas.List.{length-map}
use Rattle.std.proofs.lemmas.List.FromFn.{get_or-map-range_with_len, length-map-range_with_len, map-range_with_len_more}
use Rattle.std.proofs.lemmas.Option.{slice_get-get_or, slice_get_past}
use Rattle.pv_model.specs.Plain.{PlainModel, PlainPart, PlainParts, any, children, choice, empty, mixed, name, no_parts, opt, part, plus, seq, star}
use Rattle.pv_dtd.specs.Facts.{is_formed_part}
use Rattle.pv_dtd.specs.Plain.{PlainDtd, model_of, parts_in, parts_in_models}
use Rattle.pv_rules.specs.Numbering.{Numbered, first_part, numbered_models, part_at, rest_at}
use Rattle.pv_rules.specs.Sites.{HasSite, PlainSite, content_site, name_site, part_site, rest_site}
use Rattle.pv_rules.proofs.Facts.{parts_by_number}
use Rattle.pv_rules.proofs.FlatKinds.{IsNoRest}
use Rattle.pv_rules.proofs.Members.{member_within, some_part}
use Rattle.pv_layout.specs.Columns.{AreColumns, AreFit, FitsContent, FitsPart, FitsRest, FitsSite, PlainSites, column_at, column_of, no_column}
use Rattle.pv_layout.specs.FormForms.{plain_all, plain_form}
use Rattle.pv_layout.specs.Forms.{PlainForm, form_at, of_element, of_none, of_nothing, of_one, of_opt, of_plus, of_star, of_two}
use Rattle.pv_layout.specs.Making.{AreBlankSites, AreLaid, IsMade, KeepsForms, element_forms}
use Rattle.pv_layout.specs.declared.forms.Form.{Form}
use Rattle.pv_layout.proofs.PutValues.{same_or_not}

columns_kept : (P : ℕ → Type 0) (a b : ℕ → ℕ) (ds : List ℕ) → ((k : ℕ) → P k → a k ≡ b k) → AreColumns P a ds → AreColumns P b ds
columns_kept P a b ds same are = record {
  each = λ k p. let i = are.each k p in (i.0, i.1 ∙ ap Some (same k p));
  only = λ n d e. let o = are.only n d e in (o.0, o.1, o.2 ∙ same o.0 o.1);
}

module _ (g : PlainDtd) (a b : PlainSites) (H K : ℕ → PlainForm → Type 0) (more : (c : ℕ) (f : PlainForm) → H c f → K c f) (names : (k : ℕ) → column_at a.names k ≡ column_at b.names k) (c q : ℕ) where
  -- what is said of a part stays, where the columns after it do
  module _ (above : (k : ℕ) → q < k → (column_at a.parts k ≡ column_at b.parts k) × (column_at a.rests k ≡ column_at b.rests k)) where
    pub part_kept : (o : Option PlainPart) → FitsPart g a H c q o → FitsPart g b K c q o
    part_kept None f = more c of_none f
    part_kept (Some (name y)) f = f ∙ names y
    part_kept (Some (seq no_parts)) f = f
    part_kept (Some (seq (part p ps))) f = f ∙ (above (suc q) (omega arith)).1
    part_kept (Some (choice ps)) f = (
      f.0,
      more c (of_one f.0) f.1,
      columns_kept _ (column_at a.parts) (column_at b.parts) f.0 (λ r i. (above r (let w = member_within i.0 r (suc q) ps i.1 in omega arith)).0) f.2,
    )
    part_kept (Some (opt p)) f = subst (λ z. K c (of_opt z)) (above (suc q) (omega arith)).0 (more c (of_opt (column_at a.parts (suc q))) f)
    part_kept (Some (star p)) f = subst (λ z. K c (of_star z false)) (above (suc q) (omega arith)).0 (more c (of_star (column_at a.parts (suc q)) false) f)
    part_kept (Some (plus p)) f = subst (λ z. K c (of_plus z)) (above (suc q) (omega arith)).0 (more c (of_plus (column_at a.parts (suc q))) f)

    pub rest_kept : column_at a.parts q ≡ column_at b.parts q → (o : Option PlainParts) → FitsRest g a H c q o → FitsRest g b K c q o
    rest_kept own None f = more c of_none f
    rest_kept own (Some no_parts) f = more c of_none f
    rest_kept own (Some (part p no_parts)) f = f ∙ own
    rest_kept own (Some (part p (part r ps))) f =
        let s = some_part p in
        subst (λ z. K c (of_two z (column_at b.rests (q + parts_in p)))) own
        (subst (λ z. K c (of_two (column_at a.parts q) z)) (above (q + parts_in p) (omega arith)).1
        (more c (of_two (column_at a.parts q) (column_at a.rests (q + parts_in p))) f))

  pub content_kept : ((k : ℕ) → column_at a.parts k ≡ column_at b.parts k) → (o : Option PlainModel) → FitsContent g a H c q o → FitsContent g b K c q o
  content_kept parts None f = more c of_none f
  content_kept parts (Some empty) f = more c of_nothing f
  content_kept parts (Some any) f = (
    f.0,
    f.1,
    more c (of_star f.0 true) f.2,
    more f.0 (of_one f.1) f.3,
    columns_kept _ (column_at a.names) (column_at b.names) f.1 (λ k i. names k) f.4,
  )
  content_kept parts (Some (mixed ys)) f = (
    f.0,
    f.1,
    more c (of_star f.0 true) f.2,
    more f.0 (of_one f.1) f.3,
    columns_kept _ (λ e. column_at a.parts (first_part g q + e)) (λ e. column_at b.parts (first_part g q + e)) f.1 (λ e i. parts (first_part g q + e)) f.4,
  )
  content_kept parts (Some (children p)) f = f ∙ parts (first_part g q)

-- one part more
module _ (g : PlainDtd) (m : PlainSites) (n : ℕ) (old made new : List PlainForm) (q c d : ℕ) (laid : AreLaid g m n old (suc q) 0) (within : q < length m.parts) where
  abbrev with_part : PlainSites
  with_part = record { names = m.names; contents = m.contents; parts = set m.parts q c; rests = m.rests }

  abbrev with_both : PlainSites
  with_both = record { names = m.names; contents = m.contents; parts = set m.parts q c; rests = set m.rests q d }

  other_part : (k : ℕ) → k ≢ q → column_at m.parts k ≡ column_at (set m.parts q c) k
  other_part k ne = sym (get_or-set_other m.parts q k c no_column ne)

  other_rest : (k : ℕ) → k ≢ q → column_at m.rests k ≡ column_at (set m.rests q d) k
  other_rest k ne = sym (get_or-set_other m.rests q k d no_column ne)

  own_part : column_at (set m.parts q c) q ≡ c
  own_part = get_or-set_same m.parts q c no_column within

  own_rest : column_at (set m.rests q d) q ≡ d
  own_rest = get_or-set_same m.rests q d no_column (let a = laid.all_parts in let b = laid.all_rests in omega arith)

  above : (r k : ℕ) → q ≤ r → r < k → (column_at m.parts k ≡ column_at (set m.parts q c) k) × (column_at m.rests k ≡ column_at (set m.rests q d) k)
  above r k l h = (other_part k (omega arith), other_rest k (omega arith))

  module _ (before : KeepsForms n old made) (after : KeepsForms n made new) (fits : FitsPart g m (IsMade n made) c q (part_at g q))
      (rest : FitsRest g with_part (IsMade n new) d q (rest_at g q)) where
    both : KeepsForms n old new
    both x f h = after x f (before x f h)

    laid_part : (r : ℕ) → q ≤ r → HasSite g (part_site r) → (r ≡ q) ⊎ (r ≢ q) → FitsPart g with_both (IsMade n new) (column_at (set m.parts q c) r) r (part_at g r)
    laid_part r l has (inl e) =
        rw (e, own_part) (part_kept g m with_both (IsMade n made) (IsMade n new) after (λ k. refl) c q (λ k h. above q k (omega arith) h) (part_at g q) fits)
    laid_part r l has (inr ne) =
        subst (λ z. FitsPart g with_both (IsMade n new) z r (part_at g r)) (other_part r ne)
        (part_kept g m with_both (IsMade n old) (IsMade n new) both (λ k. refl) (column_at m.parts r) r (λ k h. above r k l h) (part_at g r) (laid.parts r (omega arith) has))

    laid_rest : (r : ℕ) → q ≤ r → HasSite g (rest_site r) → (r ≡ q) ⊎ (r ≢ q) → FitsRest g with_both (IsMade n new) (column_at (set m.rests q d) r) r (rest_at g r)
    laid_rest r l has (inl e) =
        rw (e, own_rest) (rest_kept g with_part with_both (IsMade n new) (IsMade n new) (λ x f y. y) (λ k. refl) d q (λ k h. (refl, other_rest k (omega arith))) refl (rest_at g q) rest)
    laid_rest r l has (inr ne) =
        subst (λ z. FitsRest g with_both (IsMade n new) z r (rest_at g r)) (other_rest r ne)
        (rest_kept g m with_both (IsMade n old) (IsMade n new) both (λ k. refl) (column_at m.rests r) r (λ k h. above r k l h) (other_part r ne) (rest_at g r) (laid.rests r (omega arith) has))

    pub part_laid : AreLaid g with_both n new q 0
    part_laid = record {
      named = laid.named;
      all_names = laid.all_names;
      all_parts = let e = laid.all_parts in simp length-set e;
      all_rests = let e = laid.all_rests in simp length-set e;
      all_contents = laid.all_contents;
      names = laid.names;
      parts = λ r l has. laid_part r l has (same_or_not r q);
      rests = λ r l has. laid_rest r l has (same_or_not r q);
      contents = λ x l. absurd (omega arith);
    }

-- one content more
module _ (g : PlainDtd) (m : PlainSites) (n : ℕ) (old new : List PlainForm) (x c : ℕ)
    (laid : AreLaid g m n old 0 x) (kept : KeepsForms n old new) (fits : FitsContent g m
    (IsMade n new) c x (model_of g x)) where
  abbrev with_content : PlainSites
  with_content = record { names = m.names; contents = m.contents ++ (c ∷ []); parts = m.parts; rests = m.rests }

  content_case : (k : ℕ) → k < suc x → (k ≡ x) ⊎ (k ≢ x) → FitsContent g with_content (IsMade n new) (column_at (m.contents ++ (c ∷ [])) k) k (model_of g k)
  content_case k l (inl e) =
      let s : column_at (m.contents ++ (c ∷ [])) x ≡ c = let z = get_or-append_seam m.contents c [] no_column in rw laid.all_contents at z in
      rw (e, s) (content_kept g m with_content (IsMade n new) (IsMade n new) (λ y f h. h) (λ y. refl) c x (λ y. refl) (model_of g x) fits)
  content_case k l (inr ne) =
      let s : column_at (m.contents ++ (c ∷ [])) k ≡ column_at m.contents k = get_or-append m.contents (c ∷ []) no_column k (let e = laid.all_contents in omega arith) in
      rw s (content_kept g m with_content (IsMade n old) (IsMade n new) kept (λ y. refl) (column_at m.contents k) k (λ y. refl) (model_of g k) (laid.contents k (omega arith)))

  pub content_laid : AreLaid g with_content n new 0 (suc x)
  content_laid = record {
    named = laid.named;
    all_names = laid.all_names;
    all_parts = laid.all_parts;
    all_rests = laid.all_rests;
    all_contents = let e = laid.all_contents in simp length-append (omega arith);
    names = laid.names;
    parts = λ r l has. part_kept g m with_content (IsMade n old) (IsMade n new) kept (λ y. refl) (column_at m.parts r) r (λ k h. (refl, refl)) (part_at g r) (laid.parts r l has);
    rests = λ r l has. rest_kept g m with_content (IsMade n old) (IsMade n new) kept (λ y. refl) (column_at m.rests r) r (λ k h. (refl, refl)) refl (rest_at g r) (laid.rests r l has);
    contents = λ k l. content_case k l (same_or_not k x);
  }

-- all columns, those of the names first
module _ (g : PlainDtd) (m : PlainSites) (n : ℕ) (made : List PlainForm) (laid : AreLaid g m n made 0 (length g.models)) (few : n + length made ≤ no_column) where
  abbrev forms : List PlainForm
  forms = element_forms m.contents n ++ made

  count : length (element_forms m.contents n) ≡ n
  count = length-map-range_with_len (λ x. of_element x (column_at m.contents x)) 0 n

  stands : (c : ℕ) (f : PlainForm) → IsMade n made c f → form_at forms c ≡ f
  stands c f (a, b, e) = let k = count in let z = get_or-append_right (element_forms m.contents n) made c of_none (omega arith) in let y = rw k at z in y ∙ e

  fits_site : (s : PlainSite) → HasSite g s → FitsSite g m (λ c f. form_at forms c ≡ f) (column_of m s) s
  fits_site (name_site x) has =
      let a = laid.named in
      let e = laid.names x (omega arith) in
      let k = count in
      rw e (get_or-append (element_forms m.contents n) made of_none x (omega arith)
      ∙ get_or-map-range_with_len (λ y. of_element y (column_at m.contents y)) 0 n x x of_none
      (omega arith) (omega arith))
  fits_site (content_site x) has = elim (cases_lt x (length g.models)) [
    | inl lt ↦ content_kept g m m (IsMade n made) (λ c f. form_at forms c ≡ f) stands (λ y. refl) (column_at m.contents x) x (λ y. refl) (model_of g x) (laid.contents x lt)
    | inr ge ↦ (
        let e : model_of g x ≡ None = slice_get_past g.models x ge in
        let z : column_at m.contents x ≡ no_column = get_or-eq_default m.contents no_column (let l = laid.all_contents in omega arith) in
        rw (e, z) (get_or-eq_default forms of_none (let k = count in simp length-append (omega arith)))
        )
  ]
  fits_site (part_site q) has = part_kept g m m (IsMade n made) (λ c f. form_at forms c ≡ f) stands
      (λ y. refl) (column_at m.parts q) q (λ k h. (refl, refl)) (part_at g q) (laid.parts q (omega arith) has)
  fits_site (rest_site q) has = rest_kept g m m (IsMade n made) (λ c f. form_at forms c ≡ f) stands
      (λ y. refl) (column_at m.rests q) q (λ k h. (refl, refl)) refl (rest_at g q)
      (laid.rests q (omega arith) has)

  pub all_fit : AreFit g m forms
  all_fit s has = fits_site s has

-- what is no member of a sequence
pub no_rest_fits : (g : PlainDtd) (m : PlainSites) (H : ℕ → PlainForm → Type 0) (c q : ℕ) (o : Option PlainParts) → IsNoRest o → H c of_none → FitsRest g m H c q o
no_rest_fits g m H c q None n h = h
no_rest_fits g m H c q (Some no_parts) n h = h
no_rest_fits g m H c q (Some (part p ps)) n h = absurd n

-- a sequence has members
pub seq_fits : (g : PlainDtd) (m : PlainSites) (H : ℕ → PlainForm → Type 0) (c q : ℕ)
    (ps : PlainParts) → is_formed_part (seq ps) ≡ true → c ≡ column_of m (rest_site (suc q)) →
    FitsPart g m H c q (Some (seq ps))
seq_fits g m H c q no_parts f e = absurd cc
seq_fits g m H c q (part p ps) f e = e

-- before any part is laid
module _ (g : PlainDtd) where
  part_past : (q : ℕ) (o : Option PlainPart) → part_at g q ≡ o → parts_in_models g.models ≤ q → part_at g q ≡ None
  part_past q None e l = e
  part_past q (Some p) e l = absurd (let d = (parts_by_number g).within q p e in let s = some_part p in omega arith)

  no_part_past : (q : ℕ) → parts_in_models g.models ≤ q → HasSite g (part_site q) → ⊥
  no_part_past q l has = let e = part_past q (part_at g q) refl l in let z : IsSome (part_at g q) = has in let y = rw e at z in absurd cc

  no_rest_past : (q : ℕ) → parts_in_models g.models ≤ q → HasSite g (rest_site q) → ⊥
  no_rest_past q l has =
      let c = (parts_by_number g).counted in
      let e : slice_get (numbered_models g.models) q ≡ None = slice_get_past (numbered_models g.models) q (omega arith) in
      let z : IsSome (rest_at g q) = has in let y = rw e at z in absurd cc

  pub none_laid : (m : PlainSites) (n p : ℕ) (forms : List PlainForm) → n ≡ length g.names → p ≡ parts_in_models g.models → AreBlankSites m n p → AreLaid g m n forms (parts_in_models g.models) 0
  none_laid m n p forms named counted blank = record {
    named = named;
    all_names = blank.all_names;
    all_parts = blank.all_parts ∙ counted;
    all_rests = blank.all_rests ∙ counted;
    all_contents = blank.all_contents;
    names = blank.names;
    parts = λ r l has. absurd (no_part_past r l has);
    rests = λ r l has. absurd (no_rest_past r l has);
    contents = λ x l. absurd (omega arith);
  }

  -- each number below the count of models is that of one
  pub model_there : (x : ℕ) → x < length g.models → model_of g x ≡ None → ⊥
  model_there x l e = let s = slice_get-get_or g.models x empty l in absurd cc

  -- each number below their count is that of a part
  pub part_there : (q : ℕ) → q < parts_in_models g.models → part_at g q ≡ None → ⊥
  part_there q l e =
      let c = (parts_by_number g).counted in
      let d : Numbered = record { self = name 0; rest = None } in
      let s = slice_get-get_or (numbered_models g.models) q d (omega arith) in
      let z = ap (λ o. option_map (λ (p : Numbered). p.self) o) s in absurd cc

-- the forms of all columns, those of the names first
pub elements_more : (contents : List ℕ) (n : ℕ) (forms : List Form) (f : Form) → plain_all forms ≡ element_forms contents n → plain_form f ≡ of_element n (column_at contents n) →
    plain_all (forms ++ (f ∷ [])) ≡ element_forms contents (n + 1)
elements_more contents n forms f e z =
    let m = map-range_with_len_more (λ x. of_element x (column_at contents x)) 0 n n (omega arith) in
    all_more forms f ∙ (rw (e, z) (sym m))
  where
    all_more : (forms : List Form) (f : Form) → plain_all (forms ++ (f ∷ [])) ≡ plain_all forms ++ (plain_form f ∷ [])
    all_more [] f = refl
    all_more (x ∷ forms) f = ap (λ xs. plain_form x ∷ xs) (all_more forms f)

pub few_forms : (contents : List ℕ) (n : ℕ) (forms made : List Form) → plain_all forms ≡ element_forms contents n ++ plain_all made → n + length made ≤ no_column → length forms ≤ no_column
few_forms contents n forms made e l =
    let a : length (plain_all forms) ≡ length forms = simp length-map in
    let b : length (plain_all made) ≡ length made = simp length-map in
    let c = length-map-range_with_len (λ x. of_element x (column_at contents x)) 0 n in
    let d = ap length e in
    let f = simp length-append at d in omega arith
