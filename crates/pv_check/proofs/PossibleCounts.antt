-- How many lists are Possible where one more stands among them.
use Rattle.std.proofs.Common.{◌≡◌, ◌≤◌, ℕ, ◌+◌, List, [], ◌∷◌, ◌++◌, cond, Bool, true, false, refl, ap, ◌∙◌, arith}
use Rattle.std.proofs.lemmas.List.Sums.{sum_by-cons}
use Rattle.pv_dtd.specs.Plain.{PlainDtd}
use Rattle.pv_tree.specs.Lists.{Listed}
use Rattle.pv_tree.specs.declared.nodes.Mark.{Mark}
use Rattle.pv_tree.specs.declared.nodes.Verdict.{Verdict}
use Rattle.pv_missing.specs.Verdicts.{AreVerdicts, HavePossible, IsVerdict, is_possible, possible_in}

-- one for a list that is Possible
abbrev pub one_if : Bool → ℕ
one_if b = cond b 1 0

pub one_if_few : (b : Bool) → one_if b ≤ 1
one_if_few true = omega arith
one_if_few false = omega arith

possible_cons : (v : Verdict) (vs : List Verdict) → possible_in (v ∷ vs) ≡ one_if (is_possible v) + possible_in vs
possible_cons v vs = sum_by-cons (λ w. cond (is_possible w) 1 0) v vs

module _ (g : PlainDtd) (root : List ℕ) (x : Listed Mark) (v : Verdict) (is : IsVerdict g root x v) where
  -- verdicts of lists with one more among them
  record WithOne (lists : List (Listed Mark)) (vs : List Verdict) : Type 0 where
    verdicts : List Verdict
    are : AreVerdicts g root lists verdicts
    count : possible_in verdicts ≡ one_if (is_possible v) + possible_in vs

  with_one : (xs ys : List (Listed Mark)) (vs : List Verdict) → AreVerdicts g root (xs ++ ys) vs → WithOne (xs ++ x ∷ ys) vs
  with_one [] ys vs are = record { verdicts = v ∷ vs; are = (v, vs, refl, is, are); count = possible_cons v vs }
  with_one (l ∷ xs) ys vs are =
      let w = are.0 in
      let rest = are.1 in
      let more = with_one xs ys rest are.4 in
      let whole : possible_in vs ≡ one_if (is_possible w) + possible_in rest = ap possible_in are.2 ∙ possible_cons w rest in
      let all : possible_in (w ∷ more.verdicts) ≡ one_if (is_possible w) + possible_in more.verdicts = possible_cons w more.verdicts in
      record { verdicts = w ∷ more.verdicts; are = (w, more.verdicts, refl, are.3, more.are); count = omega (arith, whole, all, more.count) }

  pub possible_more : (xs ys : List (Listed Mark)) (n m : ℕ) → HavePossible g root (xs ++ ys) n → m ≡ one_if (is_possible v) + n → HavePossible g root (xs ++ x ∷ ys) m
  possible_more xs ys n m h e =
      let more = with_one xs ys h.verdicts h.are_verdicts in
      record { verdicts = more.verdicts; are_verdicts = more.are; count = let a = h.count in omega (arith, more.count, a, e) }

pub none_possible : (g : PlainDtd) (root : List ℕ) (n : ℕ) → n ≡ 0 → HavePossible {M = Mark} g root [] n
none_possible g root n e = record { verdicts = []; are_verdicts = refl; count = e }
