-- Columns derive nothing that the sites that share them don't.
use Rattle.std.specs.Prelude.{IsTrue}
use Rattle.std.proofs.Common.{List, None, length, Option, Some, [], arith, false, inl, inr, refl, slice_get, suc, sym, true, zero, ℕ, ◌*◌, ◌+◌, ◌-◌, ◌<◌, ◌∷◌, ◌∙◌, ◌≡◌, ◌≤◌}
use Rattle.pv_model.specs.Plain.{PlainModel, PlainPart, PlainParts, PlainToken, any, children, choice, empty, mixed, name, no_parts, opt, part, plus, seq, star}
use Rattle.pv_dtd.specs.Facts.{are_known}
use Rattle.pv_dtd.specs.Plain.{PlainDtd, declared, model_of, parts_in, parts_in_models}
use Rattle.pv_rules.specs.Derivations.{Derives}
use Rattle.pv_rules.specs.Numbering.{first_part, part_at, rest_at}
use Rattle.pv_rules.specs.Rules.{Rule, any_name, any_none, any_text, children_part, empty_none, kept, missing, mixed_name, mixed_none, mixed_text}
use Rattle.pv_rules.specs.Rules.{opt_none, opt_one, over, part_choice, part_name, part_seq, plus_more, plus_one, rest_last, rest_then, star_more}
use Rattle.pv_rules.specs.Rules.{star_none}
use Rattle.pv_rules.specs.Sites.{HasSite, PlainSite, content_site, name_site, part_site, rest_site}
use Rattle.pv_rules.proofs.DerivationLaws.{HaveAll, passed}
use Rattle.pv_rules.proofs.Facts.{parts_by_number}
use Rattle.pv_rules.proofs.Members.{some_part}
use Rattle.pv_rules.proofs.SitesKept.{name_below}
use Rattle.pv_layout.specs.Columns.{AreFit, FitsContent, FitsPart, FitsRest, PlainSites, column_of}
use Rattle.pv_layout.specs.ColumnRules.{Cell, ColumnRule, FormRule, IsOneOf, cell}
use Rattle.pv_layout.specs.Forms.{PlainForm, form_at, of_element, of_none, of_nothing, of_one, of_opt, of_plus, of_star, of_two}
use Rattle.pv_layout.proofs.RuleDerivations.{made_none, made_one, made_two, none_have, one_have, two_have}
use Rattle.pv_layout.proofs.ColumnFacts.{column_spans}
use Rattle.pv_layout.proofs.SitesWithin.{first_has, listed_has, part_has, rest_has}

module _ (g : PlainDtd) (w : List PlainToken) (m : PlainSites) (f : List PlainForm) (fit : AreFit g m f) (known : IsTrue (are_known g)) (some_names : declared g ≤ length g.names) where
  abbrev H : ℕ → PlainForm → Type 0
  H c p = form_at f c ≡ p

  abbrev D : ℕ → PlainSite → ℕ → ℕ → Type 0
  D n s i j = Derives (Rule g w) n (over s i j)

  -- all sites of a column derive this, and where it is one of several columns, all sites of one of those
  record Stands (n : ℕ) (x : Cell) : Type 0 where
    pub sites : (s : PlainSite) → HasSite g s → column_of m s ≡ x.column → D n s x.from x.to
    pub members : (ds : List ℕ) → form_at f x.column ≡ of_one ds →
        (d : ℕ) × IsOneOf d ds × ((s : PlainSite) → HasSite g s → column_of m s ≡ d → D n s x.from x.to)

  -- how far a site is from one that has a column of its own
  abbrev far : PlainSite → ℕ
  far (name_site x) = 1
  far (part_site q) = 2 + 2 * (parts_in_models g.models - q)
  far (rest_site q) = 3 + 2 * (parts_in_models g.models - q)
  far (content_site x) = 4 + 2 * parts_in_models g.models

  below : (q : ℕ) (p : PlainPart) → part_at g q ≡ Some p → q < parts_in_models g.models
  below q p e = let l = (parts_by_number g).within q p e in let s = some_part p in omega arith

  module _ (c i j n k : ℕ) (xs : List Cell) (r : ColumnRule f w (cell c i j) n xs) (h : HaveAll Stands k xs) where
    -- the rule is one of this form
    as_form : (p : PlainForm) (s : PlainSite) → form_at f (column_of m s) ≡ p → column_of m s ≡ c → FormRule w c i j n xs p
    as_form p s t e = let u : form_at f c ≡ p = rw e at t in rw u at r

    one_stands : (y : Cell) → xs ≡ y ∷ [] → Stands k y
    one_stands y q = one_have Stands k xs h y q

    two_stand : (y z : Cell) → xs ≡ y ∷ z ∷ [] → (a : ℕ) × (b : ℕ) × (k ≡ a + b) × Stands a y × Stands b z
    two_stand y z q = two_have Stands k xs h y z q

    no_stands : xs ≡ [] → k ≡ 0
    no_stands q = none_have Stands k xs h q

    -- an element
    name_stands : (x d : ℕ) → HasSite g (name_site x) → d ≡ column_of m (content_site x) → FormRule w c i j n xs (of_element x d) → D (n + k) (name_site x) i j
    name_stands x d has u (inl (t, s, z, q)) = let l = no_stands q in
        rw s (made_none (Rule g w) (over (name_site x) i (suc i)) (n + k) 0 (omega arith) (kept x i t))
    name_stands x d has u (inr (s, z, q)) =
        made_one (Rule g w) (over (name_site x) i j) (n + k) 1 k (over (content_site x) i j) (omega arith) (missing x i j s) ((one_stands (cell d i j) q).sites (content_site x) has (sym u))

    text_stands : (s : PlainSite) (l : ℕ) → HasSite g s → column_of m s ≡ c → xs ≡ cell c l j ∷ [] → D k s l j
    text_stands s l has e q = (one_stands (cell c l j) q).sites s has e

    any_stands : (x d : ℕ) (ds : List ℕ) → model_of g x ≡ Some any → HasSite g (content_site x) → column_of m (content_site x) ≡ c → form_at f d ≡ of_one ds →
        ((a b : ℕ) → slice_get ds a ≡ Some b → (y : ℕ) × (y < declared g) × (b ≡ column_of m (name_site y))) →
        FormRule w c i j n xs (of_star d true) → D (n + k) (content_site x) i j
    any_stands x d ds e has t u only (inl (s, l, z, q)) = let o = no_stands q in
        rw (← s) (made_none (Rule g w) (over (content_site x) i i) (n + k) 0 (omega arith) (any_none x i (omega arith) e))
    any_stands x d ds e has t u only (inr (inl (a, l, v, z, q))) =
        made_one (Rule g w) (over (content_site x) i j) (n + k) 0 k (over (content_site x) (suc i) j) (omega arith) (any_text x i j a l e v) (text_stands (content_site x) (suc i) has t q)
    any_stands x d ds e has t u only (inr (inr (o, lt, (a, b, l, z, q)))) =
        let y = two_stand (cell d i o) (cell c o j) q in
        let p = y.3.members ds u in
        let s = only p.1.0 p.0 p.1.1 in
        let v : D y.0 (name_site s.0) i o = p.2 (name_site s.0) (let z = s.1 in omega arith) (sym s.2) in
        made_two (Rule g w) (over (content_site x) i j) (n + k) 0 y.0 y.1 (over (name_site s.0) i o) (over (content_site x) o j) (let b = y.2 in omega arith)
        (any_name x s.0 i o j lt b l e s.1) v (y.4.sites (content_site x) has t)

    mixed_stands : (x d : ℕ) (ds ys : List ℕ) → model_of g x ≡ Some (mixed ys) → HasSite g (content_site x) → column_of m (content_site x) ≡ c → form_at f d ≡ of_one ds →
        ((a b : ℕ) → slice_get ds a ≡ Some b → (o : ℕ) × (o < length ys) × (b ≡ column_of m (part_site (first_part g x + o)))) →
        FormRule w c i j n xs (of_star d true) → D (n + k) (content_site x) i j
    mixed_stands x d ds ys e has t u only (inl (s, l, z, q)) = let o = no_stands q in
        rw (← s) (made_none (Rule g w) (over (content_site x) i i) (n + k) 0 (omega arith) (mixed_none x i ys (omega arith) e))
    mixed_stands x d ds ys e has t u only (inr (inl (a, l, v, z, q))) =
        made_one (Rule g w) (over (content_site x) i j) (n + k) 0 k (over (content_site x) (suc i) j) (omega arith) (mixed_text x i j ys a l e v) (text_stands (content_site x) (suc i) has t q)
    mixed_stands x d ds ys e has t u only (inr (inr (o, lt, (a, b, l, z, q)))) =
        let y = two_stand (cell d i o) (cell c o j) q in
        let p = y.3.members ds u in
        let s = only p.1.0 p.0 p.1.1 in
        let v : D y.0 (part_site (first_part g x + s.0)) i o = p.2 (part_site (first_part g x + s.0)) (listed_has g x s.0 ys e s.1) (sym s.2) in
        made_two (Rule g w) (over (content_site x) i j) (n + k) 0 y.0 y.1 (over (part_site (first_part g x + s.0)) i o) (over (content_site x) o j) (let b = y.2 in omega arith)
        (mixed_name x s.0 i o j ys lt b l e s.1) v (y.4.sites (content_site x) has t)

    module _ (q : ℕ) (p : PlainPart) (has : HasSite g (part_site (suc q))) (d : ℕ) (u : d ≡ column_of m (part_site (suc q))) (t : column_of m (part_site q) ≡ c) where
      opt_stands : part_at g q ≡ Some (opt p) → FormRule w c i j n xs (of_opt d) → D (n + k) (part_site q) i j
      opt_stands e (inl (s, l, z, v)) = let o = no_stands v in
          rw (← s) (made_none (Rule g w) (over (part_site q) i i) (n + k) 0 (omega arith) (opt_none q i p (omega arith) e))
      opt_stands e (inr (s, z, v)) =
          made_one (Rule g w) (over (part_site q) i j) (n + k) 0 k (over (part_site (suc q)) i j)
          (omega arith) (opt_one q i j p s e) ((one_stands (cell d i j) v).sites
          (part_site (suc q)) has (sym u))

      star_stands : part_at g q ≡ Some (star p) → FormRule w c i j n xs (of_star d false) → D (n + k) (part_site q) i j
      star_stands e (inl (s, l, z, v)) = let o = no_stands v in
          rw (← s) (made_none (Rule g w) (over (part_site q) i i) (n + k) 0 (omega arith) (star_none q i p (omega arith) e))
      star_stands e (inr (o, lt, (a, b, l, z, v))) =
          let y = two_stand (cell d i o) (cell c o j) v in
          made_two (Rule g w) (over (part_site q) i j) (n + k) 0 y.0 y.1 (over (part_site (suc q)) i o) (over (part_site q) o j) (let b = y.2 in omega arith)
          (star_more q i o j p lt b l e) (y.3.sites (part_site (suc q)) has (sym u)) (y.4.sites (part_site q) (part_has g q (star p) e) t)

      plus_stands : part_at g q ≡ Some (plus p) → FormRule w c i j n xs (of_plus d) → D (n + k) (part_site q) i j
      plus_stands e (inl (s, z, v)) =
          made_one (Rule g w) (over (part_site q) i j) (n + k) 0 k (over (part_site (suc q)) i j)
          (omega arith) (plus_one q i j p s e) ((one_stands (cell d i j) v).sites
          (part_site (suc q)) has (sym u))
      plus_stands e (inr (o, lt, gt, (a, b, l, z, v))) =
          let y = two_stand (cell d i o) (cell c o j) v in
          made_two (Rule g w) (over (part_site q) i j) (n + k) 0 y.0 y.1 (over (part_site (suc q)) i o) (over (part_site q) o j) (let b = y.2 in omega arith)
          (plus_more q i o j p lt gt l e) (y.3.sites (part_site (suc q)) has (sym u)) (y.4.sites (part_site q) (part_has g q (plus p) e) t)

    -- what a site of the same column derives
    passed_to : (s o : PlainSite) → Rule g w (over s i j) 0 (over o i j ∷ []) → D (n + k) o i j → D (n + k) s i j
    passed_to s o u d = made_one (Rule g w) (over s i j) (n + k) 0 (n + k) (over o i j) (omega arith) u d

    abbrev Nearer : ℕ → Type 0
    Nearer z = (s : PlainSite) → far s ≤ z → HasSite g s → column_of m s ≡ c → D (n + k) s i j

    content_stands : (z : ℕ) → Nearer z → (x : ℕ) (o : Option PlainModel) → model_of g x ≡ o → far (content_site x) ≤ suc z → HasSite g (content_site x) → column_of m (content_site x) ≡ c →
        FitsContent g m H (column_of m (content_site x)) x o → D (n + k) (content_site x) i j
    content_stands z near x None e l has t u = absurd (as_form of_none (content_site x) u t)
    content_stands z near x (Some empty) e l has t u =
        let v = as_form of_nothing (content_site x) u t in let o = no_stands v.3 in let y = v.1 in let b = v.2 in let same = v.0 in
        rw (← same) (made_none (Rule g w) (over (content_site x) i i) (n + k) 0 (omega arith) (empty_none x i (omega arith) e))
    content_stands z near x (Some any) e l has t u = any_stands x u.0 u.1 e has t u.3 u.4.only (as_form (of_star u.0 true) (content_site x) u.2 t)
    content_stands z near x (Some (mixed ys)) e l has t u = mixed_stands x u.0 u.1 ys e has t u.3 u.4.only (as_form (of_star u.0 true) (content_site x) u.2 t)
    content_stands z near x (Some (children p)) e l has t u =
        passed_to (content_site x) (part_site (first_part g x)) (children_part x i j p (column_spans f w c i j n xs r).0 e)
        (near (part_site (first_part g x)) (let b = below (first_part g x) p ((parts_by_number g).outermost x p e) in omega arith) (first_has g x p e) (sym u ∙ t))

    part_stands : (z : ℕ) → Nearer z → (q : ℕ) (o : Option PlainPart) → part_at g q ≡ o →
        far (part_site q) ≤ suc z → column_of m (part_site q) ≡ c →
        FitsPart g m H (column_of m (part_site q)) q o → D (n + k) (part_site q) i j
    part_stands z near q None e l t u = absurd (as_form of_none (part_site q) u t)
    part_stands z near q (Some (name y)) e l t u =
        passed_to (part_site q) (name_site y) (part_name q y i j (column_spans f w c i j n xs r).0 e) (near (name_site y) (omega arith) (name_below g q y known e) (sym u ∙ t))
    part_stands z near q (Some (seq no_parts)) e l t u = absurd u
    part_stands z near q (Some (seq (part p ps))) e l t u =
        passed_to (part_site q) (rest_site (suc q)) (part_seq q i j p ps (column_spans f w c i j n xs r).0 e)
        (near (rest_site (suc q)) (let b = below q (seq (part p ps)) e in omega arith) (rest_has g (suc q) (part p ps) ((parts_by_number g).in_seq q p ps e)) (sym u ∙ t))
    part_stands z near q (Some (choice ps)) e l t u =
        let v = as_form (of_one u.0) (part_site q) u.1 t in
        let s = u.2.only v.1.0 v.0 v.1.1 in
        let d : D k (part_site s.0) i j = (one_stands (cell v.0 i j) v.2.2).sites (part_site s.0) (part_has g s.0 s.1.0 ((parts_by_number g).in_choice q s.0 s.1.0 ps e s.1.1)) (sym s.2) in
        made_one (Rule g w) (over (part_site q) i j) (n + k) 0 k (over (part_site s.0) i j) (let y = v.2.1 in omega arith) (part_choice q s.0 i j s.1.0 ps v.2.0 e s.1.1) d
    part_stands z near q (Some (opt p)) e l t u =
        opt_stands q p (part_has g (suc q) p ((parts_by_number g).in_opt q p e)) (column_of m (part_site (suc q))) refl t e (as_form (of_opt (column_of m (part_site (suc q)))) (part_site q) u t)
    part_stands z near q (Some (star p)) e l t u =
        star_stands q p (part_has g (suc q) p ((parts_by_number g).in_star q p e))
        (column_of m (part_site (suc q))) refl t e
        (as_form (of_star (column_of m (part_site (suc q))) false) (part_site q) u t)
    part_stands z near q (Some (plus p)) e l t u =
        plus_stands q p (part_has g (suc q) p ((parts_by_number g).in_plus q p e)) (column_of m (part_site (suc q))) refl t e (as_form (of_plus (column_of m (part_site (suc q)))) (part_site q) u t)

    rest_stands : (z : ℕ) → Nearer z → (q : ℕ) (o : Option PlainParts) → rest_at g q ≡ o →
        far (rest_site q) ≤ suc z → column_of m (rest_site q) ≡ c →
        FitsRest g m H (column_of m (rest_site q)) q o → D (n + k) (rest_site q) i j
    rest_stands z near q None e l t u = absurd (as_form of_none (rest_site q) u t)
    rest_stands z near q (Some no_parts) e l t u = absurd (as_form of_none (rest_site q) u t)
    rest_stands z near q (Some (part p no_parts)) e l t u =
        passed_to (rest_site q) (part_site q) (rest_last q i j p (column_spans f w c i j n xs r).0 e)
        (near (part_site q) (omega arith) (part_has g q p ((parts_by_number g).member q p no_parts e)) (sym u ∙ t))
    rest_stands z near q (Some (part p (part o ps))) e l t u =
        let v = as_form (of_two (column_of m (part_site q)) (column_of m (rest_site (q + parts_in p)))) (rest_site q) u t in
        let s = v.1 in
        let y = two_stand (cell (column_of m (part_site q)) i v.0) (cell (column_of m (rest_site (q + parts_in p))) v.0 j) s.4 in
        made_two (Rule g w) (over (rest_site q) i j) (n + k) 0 y.0 y.1 (over (part_site q) i v.0) (over (rest_site (q + parts_in p)) v.0 j) (let b = y.2 in let z = s.3 in omega arith)
        (rest_then q i v.0 j p o ps s.0 s.1 s.2 e) (y.3.sites (part_site q) (part_has g q p ((parts_by_number g).member q p (part o ps) e)) refl)
        (y.4.sites (rest_site (q + parts_in p)) (rest_has g (q + parts_in p) (part o ps) ((parts_by_number g).next q p o ps e)) refl)

    site_stands : (z : ℕ) (s : PlainSite) → far s ≤ z → HasSite g s → column_of m s ≡ c → D (n + k) s i j
    site_stands zero (name_site x) l has e = absurd (omega arith)
    site_stands zero (content_site x) l has e = absurd (omega arith)
    site_stands zero (part_site q) l has e = absurd (omega arith)
    site_stands zero (rest_site q) l has e = absurd (omega arith)
    site_stands (suc z) (name_site x) l has e =
        name_stands x (column_of m (content_site x)) has refl (as_form (of_element x (column_of m (content_site x))) (name_site x) (fit (name_site x) has) e)
    site_stands (suc z) (content_site x) l has e = content_stands z (site_stands z) x (model_of g x) refl l has e (fit (content_site x) has)
    site_stands (suc z) (part_site q) l has e = part_stands z (site_stands z) q (part_at g q) refl l e (fit (part_site q) has)
    site_stands (suc z) (rest_site q) l has e = rest_stands z (site_stands z) q (rest_at g q) refl l e (fit (rest_site q) has)

    one_step : Stands (n + k) (cell c i j)
    one_step = record {
      sites = λ s has e. site_stands (far s) s (omega arith) has e;
      members = λ ds e.
          let v : FormRule w c i j n xs (of_one ds) = rw e at r in
          let q = one_stands (cell v.0 i j) v.2.2 in
          let same : n + k ≡ k = let y = v.2.1 in omega arith in
          (v.0, v.1, λ s has u. rw same (q.sites s has u));
    }

  -- what a column derives, all its sites do
  pub site_derives : (n : ℕ) (s : PlainSite) (i j : ℕ) → HasSite g s → Derives (ColumnRule f w) n (cell (column_of m s) i j) → Derives (Rule g w) n (over s i j)
  site_derives n s i j has d =
      (passed (ColumnRule f w) Stands (λ x c k xs r h. one_step x.column x.from x.to c k xs r h) n (cell (column_of m s) i j) d).sites s has refl
