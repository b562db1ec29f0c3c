-- The row on the DTD of which each name wants two of the next.
use Rattle.std.specs.Prelude.{codes}
use Rattle.std.proofs.Common.{List, None, Some, [], ap, arith, inl, inr, map, refl, slice_get, subst, suc, zero, ℕ, ◌+◌, ◌-◌, ◌<◌, ◌∙◌, ◌∷◌, ◌≡◌, ◌≤◌, ◌⊎◌}
use Rattle.std.proofs.lemmas.Bool.{cases_lt}
use Rattle.pv_model.specs.Plain.{PlainModel, PlainToken, empty, named}
use Rattle.pv_model.specs.Models.{Allows}
use Rattle.pv_dtd.specs.Plain.{model_of, number_of}
use Rattle.pv_tree.specs.Lists.{IsOwnValid, an_element}
use Rattle.pv_tree.specs.Plain.{no_trees}
use Rattle.pv_missing.specs.Covers.{IsPossibleWith, cover_none}
use Rattle.pv_dtd.specs.Proper.{IsProperDtd}
use Rattle.pv_dtd.specs.Productive.{IsProductive, IsProductiveName}
use Rattle.law_missing.specs.Documents.{tag}
use Rattle.law_missing.specs.Dtds.{doubling, doubling_dtd, twice}
use Rattle.law_missing.specs.Rows.{DoublingRow}
use Rattle.law_missing.proofs.Bounds.{gained, no_worth, opened, worth}
use Rattle.pv_missing.proofs.LeftOutNames.{possible_productive}
use Rattle.pv_dtd.proofs.ProperDtds.{proper_dtd}
use Rattle.law_missing.proofs.RowTools.{needs, new_before, possible_row, possible_with, valid_row}
use Rattle.pv_tree.specs.declared.nodes.Verdict.TheVariants as verdict

-- twice the next name, and at last EMPTY
proper_doubling : IsProperDtd doubling_dtd
proper_doubling = proper_dtd doubling_dtd refl (omega arith) refl

twice_word : (y : ℕ) → Allows 21 (twice y) (named y ∷ named y ∷ [])
twice_word y = (y ∷ y ∷ [], refl, (y ∷ [], y ∷ [], refl, refl, (y ∷ [], [], refl, refl, refl)))

twice_words : (y : ℕ) (v : List PlainToken) → Allows 21 (twice y) v → v ≡ named y ∷ named y ∷ []
twice_words y v (ws, e, (a, b, f, g, (c, d, h, i, k))) = let j : ws ≡ y ∷ y ∷ [] = rw (g, h, i, k) at f in e ∙ ap (map named) j

abbrev double : ℕ → ℕ
double n = n + n

-- the elements that are missing in content with so many names below it
abbrev size_below : ℕ → ℕ
size_below zero = 0
size_below (suc k) = double (suc (size_below k))

-- the model of number i + j in a list of models that double from number i on
model_at : (i k j : ℕ) → j + 0 ≡ k → slice_get (doubling i k) j ≡ Some empty
model_at i zero zero e = refl
model_at i zero (suc j) e = absurd (omega arith)
model_at i (suc k) zero e = absurd (omega arith)
model_at i (suc k) (suc j) e = model_at (suc i) k j (omega arith)

twice_at : (i k j : ℕ) → j < k → slice_get (doubling i k) j ≡ Some (twice (suc (i + j)))
twice_at i zero j lt = absurd (omega arith)
twice_at i (suc k) zero lt = let e : i + 0 ≡ i = omega arith in rw e refl
twice_at i (suc k) (suc j) lt = let e : i + suc j ≡ suc i + j = omega arith in rw e (twice_at (suc i) k j (omega arith))

none_at : (i k j : ℕ) → k < j → slice_get (doubling i k) j ≡ None
none_at i zero zero lt = absurd (omega arith)
none_at i zero (suc j) lt = refl
none_at i (suc k) zero lt = absurd (omega arith)
none_at i (suc k) (suc j) lt = none_at (suc i) k j (omega arith)

next_model : (y : ℕ) → y < 20 → model_of doubling_dtd y ≡ Some (twice (suc y))
next_model y lt = let e : 0 + y ≡ y = omega arith in rw e at (twice_at 0 20 y lt)

-- content with k names below it misses so many elements
all_missing : (k y : ℕ) → y + k ≡ 20 → IsPossibleWith doubling_dtd y (size_below k) []
all_missing zero y e = possible_with doubling_dtd y 0 empty [] [] (model_at 0 20 y (omega arith)) refl (cover_none 0 refl)
all_missing (suc k) y e =
    let p = all_missing k (suc y) (omega arith) in
    let c = new_before doubling_dtd (suc y) (size_below k) (suc (size_below k + 0)) (named (suc y) ∷ []) [] [] p (new_before doubling_dtd (suc y) (size_below k) 0 [] [] [] p (cover_none 0 refl)) in
    let s : suc (size_below k + suc (size_below k + 0)) ≡ double (suc (size_below k)) = omega arith in
    possible_with doubling_dtd y (double (suc (size_below k))) (twice (suc y)) (named (suc y) ∷ named (suc y) ∷ []) [] (next_model y (omega arith)) (twice_word (suc y)) (rw s at c)

-- no fewer
abbrev size_of : ℕ → ℕ
size_of y = suc (size_below (20 - y))

size_step : (y : ℕ) → y < 20 → size_of y ≡ suc (size_of (suc y) + size_of (suc y))
size_step y lt = let e : 20 - y ≡ suc (20 - suc y) = omega arith in let f = ap size_below e in omega (arith, f)

twice_gains : (y : ℕ) (m : PlainModel) (v : List PlainToken) → y < 20 → model_of doubling_dtd y ≡ Some m → Allows 21 m v → size_of y ≤ suc (worth size_of v)
twice_gains y m v lt e ok = let f = next_model y lt in let i : m ≡ twice (suc y) = cc in
    let w = ap (worth size_of) (twice_words (suc y) v (subst (λ k. Allows 21 k v) i ok)) in omega (arith, w, size_step y lt)

last_gains : (y : ℕ) (m : PlainModel) (v : List PlainToken) → 20 ≤ y → size_of y ≤ suc (worth size_of v)
last_gains y m v le = let e : 20 - y ≡ 0 = omega arith in let f = ap size_below e in omega (arith, f)

size_gains : (y : ℕ) (m : PlainModel) (v : List PlainToken) → model_of doubling_dtd y ≡ Some m → Allows 21 m v → size_of y ≤ suc (worth size_of v)
size_gains y m v e ok = go (cases_lt y 20)
  where
    go : (suc y ≤ 20) ⊎ (20 ≤ y) → size_of y ≤ suc (worth size_of v)
    go (inl lt) = twice_gains y m v (omega arith) e ok
    go (inr le) = last_gains y m v le

doubling_bound : (n : ℕ) → IsPossibleWith doubling_dtd 0 n [] → 2097150 ≤ n
doubling_bound n p = let o = opened doubling_dtd 0 n (twice 1) [] refl p in
    let q = gained doubling_dtd size_of (λ _. 0) (λ y m v e ok. let r = size_gains y m v e ok in omega (arith, r, no_worth v)) n o.whole [] o.covers in
    let w : worth size_of o.whole ≡ 2097150 = ap (worth size_of) (twice_words 1 o.whole o.allowed) in omega (arith, q, w, no_worth o.whole)

t_good : IsProductive doubling_dtd 0
t_good = possible_productive doubling_dtd proper_doubling 0 2097150 [] (all_missing 20 0 (omega arith))

t_name : IsProductiveName doubling_dtd (codes "t0")
t_name = record { number = 0; is_number = refl; productive = t_good }

t_not_own : IsOwnValid {M = Unit} doubling_dtd (number_of doubling_dtd (codes "t0")) no_trees → ⊥
t_not_own o = let f : o.number ≡ 0 = let i = o.is_owner in cc in
    let m : model_of doubling_dtd 0 ≡ Some o.model = rw f at o.is_model in let i : o.model ≡ twice 1 = cc in
    let w = twice_words 1 [] (subst (λ x. Allows 21 x []) i o.allowed) in cc

pub many_missing_law : DoublingRow
many_missing_law = needs doubling_dtd (codes "t0") proper_doubling (tag (codes "t0") []) (verdict.Valid ∷ verdict.Possible ∷ []) 2097150 (record { rooted = refl; units = tt }) (
  0,
  2097150,
  refl,
  valid_row doubling_dtd (codes "t0") _ (refl, refl) tt (t_name, tt),
  (
    2097150,
    0,
    refl,
    possible_row doubling_dtd (codes "t0") (record { path = 0 ∷ []; owner = an_element (codes "t0"); kids = no_trees }) 2097150
        (record { number = 0; is_owner = refl; productive = t_good; no_kids = λ e. refl; possible = all_missing 20 0 (omega arith) })
        (λ m p. let e : p.number ≡ 0 = let i = p.is_owner in cc in doubling_bound m (rw e at p.possible)) t_not_own,
    refl,
  ),
)
