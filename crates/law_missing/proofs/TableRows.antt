-- The table of <a/> is closed, and isn't without the entry of a missing element.
use Rattle.std.specs.Prelude.{codes, min}
use Rattle.std.proofs.Common.{List, [], arith, inl, inr, refl, suc, zero, ℕ, ◌+◌, ◌∷◌, ◌≡◌, ◌≤◌}
use Rattle.pv_model.specs.Plain.{empty}
use Rattle.pv_dtd.specs.Hedge.{Fits, done, elem}
use Rattle.pv_rules.specs.Derivations.{IsClosed, heaviest, sum_of}
use Rattle.pv_rules.specs.Kinds.{OfSite}
use Rattle.pv_rules.specs.Rules.{Goal, IsSpan, Rule, missing, over}
use Rattle.pv_rules.specs.Sites.{PlainSite, content_site, name_site, part_site, rest_site}
use Rattle.pv_rules.proofs.RulesByKind.{by_kind}
use Rattle.pv_missing.specs.Completions.{out_done, out_kept, out_new}
use Rattle.pv_missing.specs.Extensions.{both_done, new_element, same_element}
use Rattle.law_missing.specs.Dtds.{pair_dtd}
use Rattle.law_missing.specs.Tables.{TableRow, pair_table}
use Rattle.law_missing.proofs.PairRows.{a_model, one_b}

abbrev IsAtMostSum : PlainSite → ℕ → ℕ → ℕ → List Goal → Type 0
IsAtMostSum s i j c xs = pair_table 1 (over s i j) ≤ min heaviest (c + sum_of (pair_table 1) xs)

-- the empty word has one span, so that each rule is over this one
to_none : (s : PlainSite) (i j c : ℕ) (xs : List Goal) → i ≡ j → j ≤ 0 → c ≡ 0 → xs ≡ [] → IsAtMostSum s 0 0 0 [] → IsAtMostSum s i j c xs
to_none s i j c xs e l z x h = let f : i ≡ 0 = omega arith in let d : j ≡ 0 = omega arith in rw (z, x, f, d) h

to_one : (s r : PlainSite) (i j c d : ℕ) (xs : List Goal) → IsSpan [] i j → c ≡ d → xs ≡ over r i j ∷ [] → IsAtMostSum s 0 0 d (over r 0 0 ∷ []) → IsAtMostSum s i j c xs
to_one s r i j c d xs l z x h = let p = l.0 in let q = l.1 in let e : i ≡ 0 = omega arith in let f : j ≡ 0 = omega arith in rw (z, x, e, f) h

closed_at : (s : PlainSite) (i j c : ℕ) (xs : List Goal) → OfSite pair_dtd [] i j c xs s → IsAtMostSum s i j c xs
closed_at (name_site x) i j c xs (inl o) = let f = o.0 in absurd cc
closed_at (name_site zero) i j c xs (inr (l, z, e)) = to_one (name_site 0) (content_site 0) i j c 1 xs l z e (omega arith)
closed_at (name_site (suc zero)) i j c xs (inr (l, z, e)) = to_one (name_site 1) (content_site 1) i j c 1 xs l z e (omega arith)
closed_at (name_site (suc (suc x))) i j c xs (inr (l, z, e)) =
    to_one (name_site (suc (suc x))) (content_site (suc (suc x))) i j c 1 xs l z e (omega arith)
closed_at (content_site zero) i j c xs (l, z, e) = to_one (content_site 0) (part_site 0) i j c 0 xs l z e (omega arith)
closed_at (content_site (suc zero)) i j c xs (e, l, z, x) = to_none (content_site 1) i j c xs e l z x (omega arith)
closed_at (content_site (suc (suc x))) i j c xs o = absurd o
closed_at (part_site zero) i j c xs (l, z, e) = to_one (part_site 0) (rest_site 1) i j c 0 xs l z e (omega arith)
closed_at (part_site (suc zero)) i j c xs (l, z, e) = to_one (part_site 1) (name_site 1) i j c 0 xs l z e (omega arith)
closed_at (part_site (suc (suc q))) i j c xs o = absurd o
closed_at (rest_site zero) i j c xs o = absurd o
closed_at (rest_site (suc zero)) i j c xs (l, z, e) = to_one (rest_site 1) (part_site 1) i j c 0 xs l z e (omega arith)
closed_at (rest_site (suc (suc q))) i j c xs o = absurd o

open_without : IsClosed (Rule pair_dtd []) (pair_table heaviest) → ⊥
open_without t =
    let p = t (over (name_site 1) 0 0) 1 (over (content_site 1) 0 0 ∷ []) (missing 1 0 0 (omega arith, omega arith)) in omega (arith, p)

a_fits : Fits pair_dtd 0 (elem (codes "b") [] done done)
a_fits = record { model = a_model; is_model = refl; no_kids = λ e. absurd cc; allowed = one_b }

b_fits : Fits pair_dtd 1 done
b_fits = record { model = empty; is_model = refl; no_kids = λ _. refl; allowed = refl }

pub closed_table_law : TableRow
closed_table_law = record {
  closed = λ x c xs r. closed_at x.site x.from x.to c xs (by_kind pair_dtd [] x.site x.from x.to c xs r);
  whole = refl;
  open_without = open_without;
  completes = record {
    valid = record { attrs = []; kids = elem (codes "b") [] done done; is_root = refl; good = (0, refl, a_fits, (1, refl, b_fits, tt, tt), tt) };
    extends = same_element (codes "a") [] done (elem (codes "b") [] done done) done done
        (new_element (codes "b") done done done done done refl both_done both_done) both_done;
    inserted = refl;
    same_before = refl;
    same_after = refl;
    counted = refl;
    tags = out_kept 0 2 2 (1 ∷ []) (1 ∷ []) [] (codes "a") [] done (elem (codes "b") [] done done) done done refl
        (out_new 1 2 2 (1 ∷ []) [] [] (codes "b") done done done done done refl refl (out_done 2 2 refl) (out_done 2 2 refl)) (out_done 2 2 refl);
  };
}
