-- Sites derive what their columns do.
use Rattle.std.specs.Prelude.{IsTrue}
use Rattle.std.proofs.Common.{List, None, length, Option, Some, [], arith, false, inl, inr, refl, suc, true, ℕ, ◌+◌, ◌<◌, ◌∷◌, ◌≡◌, ◌≤◌}
use Rattle.pv_model.specs.Plain.{PlainModel, PlainPart, PlainParts, PlainToken, any, children, choice, empty, mixed, name, no_parts, opt, part, plus, seq, star}
use Rattle.pv_dtd.specs.Facts.{are_known}
use Rattle.pv_dtd.specs.Plain.{PlainDtd, declared, model_of, parts_in}
use Rattle.pv_rules.specs.Derivations.{Derives}
use Rattle.pv_rules.specs.Kinds.{OfContent, OfName, OfPart, OfRest, ToOne, ToTwo}
use Rattle.pv_rules.specs.Numbering.{first_part, part_at, rest_at}
use Rattle.pv_rules.specs.Rules.{Goal, Rule, over}
use Rattle.pv_rules.specs.Sites.{HasSite, PlainSite, content_site, name_site, part_site, rest_site}
use Rattle.pv_rules.proofs.RulesByKind.{by_kind}
use Rattle.pv_rules.proofs.DerivationLaws.{HaveAll, passed}
use Rattle.pv_rules.proofs.Facts.{parts_by_number}
use Rattle.pv_rules.proofs.SitesKept.{name_below}
use Rattle.pv_layout.specs.Columns.{AreFit, FitsContent, FitsPart, FitsRest, PlainSites, column_of}
use Rattle.pv_layout.specs.ColumnRules.{Cell, ColumnRule, FormRule, IsOneOf, cell}
use Rattle.pv_layout.specs.Forms.{PlainForm, form_at, of_element, of_nothing, of_one, of_opt, of_plus, of_star, of_two}
use Rattle.pv_layout.proofs.RuleDerivations.{made_none, made_one, made_two, none_have, one_have, two_have}
use Rattle.pv_layout.proofs.SitesWithin.{first_has, listed_has, part_has, rest_has}

module _ (g : PlainDtd) (w : List PlainToken) (m : PlainSites) (f : List PlainForm) (fit : AreFit g m f) (known : IsTrue (are_known g)) (some_names : declared g ≤ length g.names) where
  abbrev C : Cell → ℕ → List Cell → Type 0
  C = ColumnRule f w

  abbrev H : ℕ → PlainForm → Type 0
  H c p = form_at f c ≡ p

  -- the column of a site
  abbrev at_site : PlainSite → ℕ → ℕ → Cell
  at_site s i j = cell (column_of m s) i j

  made : (c i j n : ℕ) (xs : List Cell) (p : PlainForm) → form_at f c ≡ p → FormRule w c i j n xs p → C (cell c i j) n xs
  made c i j n xs p e r = rw e r

  -- what the columns of right sides derive, the column of the left side does
  abbrev Has : ℕ → Goal → Type 0
  Has n x = HasSite g x.site → Derives C n (at_site x.site x.from x.to)

  module _ (i j c k : ℕ) (xs : List Goal) (h : HaveAll Has k xs) where
    none_case : (s : PlainSite) (p : PlainForm) → form_at f (column_of m s) ≡ p → FormRule w (column_of m s) i j 0 [] p → c ≡ 0 → xs ≡ [] → Derives C (c + k) (at_site s i j)
    none_case s p e r z q = let n = none_have Has k xs h q in made_none C (at_site s i j) (c + k) 0 (omega arith) (made (column_of m s) i j 0 [] p e r)

    -- the one right side has the same column
    same_case : (s o : PlainSite) → column_of m s ≡ column_of m o → HasSite g o → ToOne g w i j c xs o → Derives C (c + k) (at_site s i j)
    same_case s o e has (sp, z, q) = let d = one_have Has k xs h (over o i j) q has in let n : c + k ≡ k = omega arith in rw (n, e) d

    one_case : (s o : PlainSite) (p : PlainForm) (b : ℕ) → form_at f (column_of m s) ≡ p → FormRule w (column_of m s) i j b (at_site o i j ∷ []) p → HasSite g o →
        c ≡ b → xs ≡ over o i j ∷ [] → Derives C (c + k) (at_site s i j)
    one_case s o p b e r has z q =
        made_one C (at_site s i j) (c + k) b k (at_site o i j) (omega arith) (made (column_of m s) i j b (at_site o i j ∷ []) p e r) (one_have Has k xs h (over o i j) q has)

    text_case : (s : PlainSite) (p : PlainForm) → form_at f (column_of m s) ≡ p → FormRule w (column_of m s) i j 0 (at_site s (suc i) j ∷ []) p → HasSite g s →
        c ≡ 0 → xs ≡ over s (suc i) j ∷ [] → Derives C (c + k) (at_site s i j)
    text_case s p e r has z q =
        made_one C (at_site s i j) (c + k) 0 k (at_site s (suc i) j) (omega arith) (made (column_of m s) i j 0 (at_site s (suc i) j ∷ []) p e r)
        (one_have Has k xs h (over s (suc i) j) q has)

    two_case : (s o r : PlainSite) (p : PlainForm) (n : ℕ) → form_at f (column_of m s) ≡ p → FormRule w (column_of m s) i j 0 (at_site o i n ∷ at_site r n j ∷ []) p →
        HasSite g o → HasSite g r → c ≡ 0 → xs ≡ over o i n ∷ over r n j ∷ [] → Derives C (c + k) (at_site s i j)
    two_case s o r p n e u one two z q =
        let d = two_have Has k xs h (over o i n) (over r n j) q in
        made_two C (at_site s i j) (c + k) 0 d.0 d.1 (at_site o i n) (at_site r n j) (let y = d.2 in omega arith)
        (made (column_of m s) i j 0 (at_site o i n ∷ at_site r n j ∷ []) p e u) (d.3 one) (d.4 two)

    -- one of the columns of a mixed model, and the content after it
    item_case : (s o : PlainSite) (d n : ℕ) (ds : List ℕ) → form_at f (column_of m s) ≡ of_star d true → form_at f d ≡ of_one ds → IsOneOf (column_of m o) ds →
        HasSite g o → HasSite g s → i < n → ToTwo g w i j c xs o s n → Derives C (c + k) (at_site s i j)
    item_case s o d n ds e u among one two lt (a, l, z, q) =
        let y = two_have Has k xs h (over o i n) (over s n j) q in
        let top : Derives C y.0 (cell d i n) = made_one C (cell d i n) y.0 0 y.0 (at_site o i n) (omega arith)
        (made d i n 0 (at_site o i n ∷ []) (of_one ds) u (column_of m o, among, ((omega arith, omega arith), refl, refl))) (y.3 one) in
        made_two C (at_site s i j) (c + k) 0 y.0 y.1 (cell d i n) (at_site s n j) (let b = y.2 in omega arith)
        (made (column_of m s) i j 0 (cell d i n ∷ at_site s n j ∷ []) (of_star d true) e (inr (inr (n, lt, (omega arith, a, l, refl, refl))))) top (y.4 two)

    name_step : (x : ℕ) → HasSite g (name_site x) → OfName g w i j c xs x → Derives C (c + k) (at_site (name_site x) i j)
    name_step x has (inl (e, l, z, q)) = none_case (name_site x) (of_element x (column_of m (content_site x))) (fit (name_site x) has) (inl (e, l, refl, refl)) z q
    name_step x has (inr (s, z, q)) =
        one_case (name_site x) (content_site x) (of_element x (column_of m (content_site x))) 1 (fit (name_site x) has) (inr (s, refl, refl)) has z q

    content_step : (x : ℕ) (o : Option PlainModel) → model_of g x ≡ o → HasSite g (content_site x) → FitsContent g m H (column_of m (content_site x)) x o → OfContent g w i j c xs x o →
        Derives C (c + k) (at_site (content_site x) i j)
    content_step x None e has t r = absurd r
    content_step x (Some empty) e has t (s, l, z, q) = none_case (content_site x) of_nothing t (s, l, refl, refl) z q
    content_step x (Some any) e has t (inl (s, l, z, q)) = none_case (content_site x) (of_star t.0 true) t.2 (inl (s, l, refl, refl)) z q
    content_step x (Some any) e has t (inr (inl (a, l, v, z, q))) = text_case (content_site x) (of_star t.0 true) t.2 (inr (inl (a, l, v, refl, refl))) has z q
    content_step x (Some any) e has t (inr (inr (y, n, d, lt, r))) =
        item_case (content_site x) (name_site y) t.0 n t.1 t.2 t.3 (t.4.each y d) (omega arith) has lt r
    content_step x (Some (mixed ys)) e has t (inl (s, l, z, q)) = none_case (content_site x) (of_star t.0 true) t.2 (inl (s, l, refl, refl)) z q
    content_step x (Some (mixed ys)) e has t (inr (inl (a, l, v, z, q))) = text_case (content_site x) (of_star t.0 true) t.2 (inr (inl (a, l, v, refl, refl))) has z q
    content_step x (Some (mixed ys)) e has t (inr (inr (y, n, d, lt, r))) =
        item_case (content_site x) (part_site (first_part g x + y)) t.0 n t.1 t.2 t.3 (t.4.each y d) (listed_has g x y ys e d) has lt r
    content_step x (Some (children p)) e has t r = same_case (content_site x) (part_site (first_part g x)) t (first_has g x p e) r

    part_step : (x : ℕ) (o : Option PlainPart) → part_at g x ≡ o → FitsPart g m H (column_of m (part_site x)) x o → OfPart g w i j c xs x o → Derives C (c + k) (at_site (part_site x) i j)
    part_step x None e t r = absurd r
    part_step x (Some (name y)) e t r = same_case (part_site x) (name_site y) t (name_below g x y known e) r
    part_step x (Some (seq no_parts)) e t r = absurd r
    part_step x (Some (seq (part p ps))) e t r = same_case (part_site x) (rest_site (suc x)) t (rest_has g (suc x) (part p ps) ((parts_by_number g).in_seq x p ps e)) r
    part_step x (Some (choice ps)) e t (p, r, a, (s, z, q)) =
        one_case (part_site x) (part_site r) (of_one t.0) 0 t.1 (column_of m (part_site r), t.2.each r (p, a), (s, refl, refl))
        (part_has g r p ((parts_by_number g).in_choice x r p ps e a)) z q
    part_step x (Some (opt p)) e t (inl (s, l, z, q)) = none_case (part_site x) (of_opt (column_of m (part_site (suc x)))) t (inl (s, l, refl, refl)) z q
    part_step x (Some (opt p)) e t (inr (s, z, q)) =
        one_case (part_site x) (part_site (suc x)) (of_opt (column_of m (part_site (suc x)))) 0 t (inr (s, refl, refl)) (part_has g (suc x) p ((parts_by_number g).in_opt x p e)) z q
    part_step x (Some (star p)) e t (inl (s, l, z, q)) = none_case (part_site x) (of_star (column_of m (part_site (suc x))) false) t (inl (s, l, refl, refl)) z q
    part_step x (Some (star p)) e t (inr (n, lt, (a, l, z, q))) =
        two_case (part_site x) (part_site (suc x)) (part_site x) (of_star (column_of m (part_site (suc x))) false) n t (inr (n, lt, (omega arith, a, l, refl, refl)))
        (part_has g (suc x) p ((parts_by_number g).in_star x p e)) (part_has g x (star p) e) z q
    part_step x (Some (plus p)) e t (inl (s, z, q)) =
        one_case (part_site x) (part_site (suc x)) (of_plus (column_of m (part_site (suc x)))) 0 t (inl (s, refl, refl)) (part_has g (suc x) p ((parts_by_number g).in_plus x p e)) z q
    part_step x (Some (plus p)) e t (inr (n, lt, gt, (a, l, z, q))) =
        two_case (part_site x) (part_site (suc x)) (part_site x) (of_plus (column_of m (part_site (suc x)))) n t (inr (n, lt, gt, (omega arith, a, l, refl, refl)))
        (part_has g (suc x) p ((parts_by_number g).in_plus x p e)) (part_has g x (plus p) e) z q

    rest_step : (x : ℕ) (o : Option PlainParts) → rest_at g x ≡ o → FitsRest g m H (column_of m (rest_site x)) x o → OfRest g w i j c xs x o → Derives C (c + k) (at_site (rest_site x) i j)
    rest_step x None e t r = absurd r
    rest_step x (Some no_parts) e t r = absurd r
    rest_step x (Some (part p no_parts)) e t r = same_case (rest_site x) (part_site x) t (part_has g x p ((parts_by_number g).member x p no_parts e)) r
    rest_step x (Some (part p (part r ps))) e t (n, le, (a, l, z, q)) =
        two_case (rest_site x) (part_site x) (rest_site (x + parts_in p)) (of_two (column_of m (part_site x)) (column_of m (rest_site (x + parts_in p)))) n t
        (n, (le, a, l, refl, refl)) (part_has g x p ((parts_by_number g).member x p (part r ps) e))
        (rest_has g (x + parts_in p) (part r ps) ((parts_by_number g).next x p r ps e)) z q

  site_step : (s : PlainSite) (i j c k : ℕ) (xs : List Goal) → Rule g w (over s i j) c xs → HaveAll Has k xs → HasSite g s → Derives C (c + k) (at_site s i j)
  site_step (name_site x) i j c k xs r h has = name_step i j c k xs h x has (by_kind g w (name_site x) i j c xs r)
  site_step (content_site x) i j c k xs r h has = content_step i j c k xs h x (model_of g x) refl has (fit (content_site x) has) (by_kind g w (content_site x) i j c xs r)
  site_step (part_site q) i j c k xs r h has = part_step i j c k xs h q (part_at g q) refl (fit (part_site q) has) (by_kind g w (part_site q) i j c xs r)
  site_step (rest_site q) i j c k xs r h has = rest_step i j c k xs h q (rest_at g q) refl (fit (rest_site q) has) (by_kind g w (rest_site q) i j c xs r)

  -- what a site derives, its column does
  pub column_derives : (n : ℕ) (s : PlainSite) (i j : ℕ) → HasSite g s → Derives (Rule g w) n (over s i j) → Derives C n (at_site s i j)
  column_derives n s i j has d = passed (Rule g w) Has (λ x c k xs r h has. site_step x.site x.from x.to c k xs r h has) n (over s i j) d has
