-- The rows on the DTD of a and b.
use Rattle.std.specs.Prelude.{codes}
use Rattle.std.proofs.Common.{List, Some, [], arith, refl, subst, suc, zero, ℕ, ◌++◌, ◌∷◌, ◌≡◌, ◌≤◌}
use Rattle.pv_model.specs.Plain.{PlainModel, PlainToken, children, empty, name, named, no_parts, part, seq}
use Rattle.pv_model.specs.Models.{Allows}
use Rattle.pv_dtd.specs.Plain.{model_of, number_of}
use Rattle.pv_tree.specs.Lists.{IsOwnValid, an_element}
use Rattle.pv_tree.specs.Plain.{no_trees}
use Rattle.pv_missing.specs.Covers.{IsPossibleWith, cover_none}
use Rattle.pv_dtd.specs.Proper.{IsProperDtd}
use Rattle.pv_dtd.specs.Productive.{IsProductive, IsProductiveName}
use Rattle.law_missing.specs.Documents.{tag}
use Rattle.law_missing.specs.Dtds.{pair_dtd}
use Rattle.law_missing.specs.Rows.{PairRow}
use Rattle.law_missing.proofs.Bounds.{opened, zero_same}
use Rattle.pv_missing.proofs.LeftOutNames.{possible_productive}
use Rattle.pv_dtd.proofs.ProperDtds.{proper_dtd}
use Rattle.law_missing.proofs.RowTools.{alone_productive, needs, new_before, possible_row, possible_with, valid_row}
use Rattle.pv_tree.specs.declared.nodes.Verdict.TheVariants as verdict

-- <!ELEMENT a (b)> <!ELEMENT b EMPTY>
abbrev pub a_model : PlainModel
a_model = children (seq (part (name 1) no_parts))

proper_pair : IsProperDtd pair_dtd
proper_pair = proper_dtd pair_dtd refl (omega arith) refl

pub one_b : Allows 2 a_model (named 1 ∷ [])
one_b = (1 ∷ [], refl, (1 ∷ [], [], refl, refl, refl))

b_good : IsProductive pair_dtd 1
b_good = alone_productive pair_dtd 1 empty refl refl

a_nothing : IsPossibleWith pair_dtd 0 1 []
a_nothing = possible_with pair_dtd 0 1 a_model (named 1 ∷ []) [] refl one_b
    (new_before pair_dtd 1 0 0 [] [] [] (possible_with pair_dtd 1 0 empty [] [] refl refl (cover_none 0 refl)) (cover_none 0 refl))

a_good : IsProductive pair_dtd 0
a_good = possible_productive pair_dtd proper_pair 0 1 [] a_nothing

-- an a with nothing misses something
not_empty : (u : List PlainToken) → Allows 2 a_model u → u ≡ [] → ⊥
not_empty u ([], e, (v, w, f, g, z)) i = absurd (let h : [] ≡ (1 ∷ []) ++ w = rw g at f in cc)
not_empty u (y ∷ ws, e, m) i = absurd cc

a_least : (n : ℕ) → IsPossibleWith pair_dtd 0 n [] → 1 ≤ n
a_least zero p = let o = opened pair_dtd 0 0 a_model [] refl p in absurd (not_empty o.whole o.allowed (zero_same pair_dtd 0 o.whole [] o.covers refl))
a_least (suc n) p = omega arith

a_not_own : IsOwnValid {M = Unit} pair_dtd (number_of pair_dtd (codes "a")) no_trees → ⊥
a_not_own o = let f : o.number ≡ 0 = let i = o.is_owner in cc in
    let m : model_of pair_dtd 0 ≡ Some o.model = rw f at o.is_model in let i : o.model ≡ a_model = cc in
    not_empty [] (subst (λ x. Allows 2 x []) i o.allowed) refl

a_name : IsProductiveName pair_dtd (codes "a")
a_name = record { number = 0; is_number = refl; productive = a_good }

b_name : IsProductiveName pair_dtd (codes "b")
b_name = record { number = 1; is_number = refl; productive = b_good }

pub one_missing_law : PairRow
one_missing_law = (
  needs pair_dtd (codes "a") proper_pair (tag (codes "a") []) (verdict.Valid ∷ verdict.Possible ∷ []) 1 (record { rooted = refl; units = tt }) (
    0,
    1,
    refl,
    valid_row pair_dtd (codes "a") _ (refl, refl) tt (a_name, tt),
    (
      1,
      0,
      refl,
      possible_row pair_dtd (codes "a") (record { path = 0 ∷ []; owner = an_element (codes "a"); kids = no_trees }) 1
          (record { number = 0; is_owner = refl; productive = a_good; no_kids = λ e. refl; possible = a_nothing })
          (λ m p. let e : p.number ≡ 0 = let i = p.is_owner in cc in a_least m (rw e at p.possible)) a_not_own,
      refl,
    ),
  ),
  needs pair_dtd (codes "a") proper_pair (tag (codes "a") (tag (codes "b") [] ∷ [])) (verdict.Valid ∷ verdict.Valid ∷ verdict.Valid ∷ []) 0
      (record { rooted = refl; units = (tt, tt) }) (
        0,
        0,
        refl,
        valid_row pair_dtd (codes "a") _ (refl, refl) tt (a_name, tt),
        (
          0,
          0,
          refl,
          valid_row pair_dtd (codes "a") _ (record { number = 0; is_owner = refl; model = a_model; is_model = refl; no_kids = λ z. absurd cc; allowed = one_b }) a_name (b_name, tt),
          (
            0,
            0,
            refl,
            valid_row pair_dtd (codes "a") _ (record { number = 1; is_owner = refl; model = empty; is_model = refl; no_kids = λ z. refl; allowed = refl }) b_name tt,
            refl,
          ),
        ),
      ),
)
