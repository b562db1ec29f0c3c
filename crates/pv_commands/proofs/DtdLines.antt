-- The lines of a listing, one more.
use Rattle.std.specs.Prelude.{OnOk}
use Rattle.std.proofs.Common.{◌≤◌, length, append-nil, ◌≡◌, ℕ, List, Result, Ok, Err, Some, [], ◌∷◌}
use Rattle.std.proofs.Common.{◌++◌, ◌+◌, append_assoc, arith, drop, refl, slice_get, subst, suc}
use Rattle.std.proofs.Common.{zero}
use Rattle.pv_model.specs.Plain.{PlainModel}
use Rattle.pv_dtd.specs.Plain.{PlainDtd}
use Rattle.pv_commands.specs.Dtd.{AreNameLines, IsNameLine, IsTreeText}

pub tree_put : {E : Type 0} (r : Result Unit E) (g : PlainDtd) (y : ℕ) (old new tree : List ℕ) →
    IsTreeText g y tree → OnOk r (new ≡ old ++ tree) →
    OnOk r ((t : List ℕ) × IsTreeText g y t × (new ≡ old ++ t))
tree_put (Ok u) g y old new tree is e = (tree, is, e)
tree_put (Err x) g y old new tree is e = tt

-- the texts of a line, one after another
pub regroup : (o a b c d e f : List ℕ) →
    (((((o ++ a) ++ b) ++ c) ++ d) ++ e) ++ f ≡ o ++ (((((a ++ b) ++ c) ++ d) ++ e) ++ f)
regroup o a b c d e f = simp append_assoc refl

first_left : (ms : List PlainModel) (i : ℕ) (m : PlainModel) → slice_get ms i ≡ Some m →
    drop i ms ≡ m ∷ drop (i + 1) ms
first_left [] i m e = absurd cc
first_left (n ∷ ms) zero m e = let f : n ≡ m = cc in rw f refl
first_left (n ∷ ms) (suc i) m e =
    let z : suc i + 1 ≡ suc (i + 1) = omega arith in rw z (first_left ms i m e)

-- these lines and those of the names from number i on are lines of all names
abbrev pub Begin : PlainDtd → ℕ → List ℕ → Type 0
Begin g i text =
    (rest : List ℕ) → AreNameLines g i (drop i g.models) rest →
    AreNameLines g 0 g.models (text ++ rest)

pub one_more : (g : PlainDtd) (i : ℕ) (m : PlainModel) (text line new : List ℕ) →
    slice_get g.models i ≡ Some m → IsNameLine g i m line → new ≡ text ++ line →
    Begin g i text → Begin g (i + 1) new
one_more g i m text line new e is f begin rest lines =
    let z : i + 1 ≡ suc i = omega arith in
    let h = begin (line ++ rest)
    (rw (first_left g.models i m e) (
      line,
      rest,
      is,
      (subst (λ k. AreNameLines g k (drop (i + 1) g.models) rest) z lines),
      refl,
    )) in
    rw (f, append_assoc text line rest) h

-- six texts, appended one after another
pub appended : (o a b c d e f s1 s2 s3 s4 s5 s6 : List ℕ) → s1 ≡ o ++ a → s2 ≡ s1 ++ b →
    s3 ≡ s2 ++ c → s4 ≡ s3 ++ d → s5 ≡ s4 ++ e → s6 ≡ s5 ++ f →
    s6 ≡ o ++ (a ++ b ++ c ++ d ++ e ++ f)
appended o a b c d e f s1 s2 s3 s4 s5 s6 p q r s t u =
    rw (u, t, s, r, q, p) (simp append_assoc refl)

none_left : (g : PlainDtd) (ms : List PlainModel) (i k : ℕ) → length ms ≤ i →
    AreNameLines g k (drop i ms) []
none_left g [] zero k e = refl
none_left g [] (suc i) k e = refl
none_left g (m ∷ ms) zero k e = absurd (omega arith)
none_left g (m ∷ ms) (suc i) k e = none_left g ms i k (omega arith)

pub finished : (g : PlainDtd) (i : ℕ) (text : List ℕ) → length g.models ≤ i → Begin g i text →
    AreNameLines g 0 g.models text
finished g i text e begin = let h = begin [] (none_left g g.models i i e) in simp append-nil at h
