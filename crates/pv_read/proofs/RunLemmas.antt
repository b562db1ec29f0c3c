-- Text runs, read from the front.
use Rattle.std.proofs.Common.{◌≡◌, ℕ, inl, inr, List, [], ◌∷◌, ◌++◌, Bool, true, false, not, ◌==◌, Option, Some, None, refl, sym, subst, ◌∙◌}
use Rattle.std.specs.Prelude.{codes, IsTrue}
use Rattle.std.proofs.lemmas.Bool.{and_parts}
use Rattle.std.specs.Option.{MatchOption, is_some}
use Rattle.pv_chars.specs.Fronts.{ContainsBytes}
use Rattle.pv_chars.specs.References.{IsReference}
use Rattle.pv_tree.specs.Attributes.{IsCharacterData}
use Rattle.pv_read.specs.Items.{text_run, IsRunEnd, BeginsItem}
use Rattle.pv_read.specs.PlainItems.{BeginsNoneOf}
use Rattle.pv_read.specs.declared.forms.sorts.Sort.TheVariants as sort
use Rattle.pv_read.proofs.KnownReferences.{reference_is}
use Rattle.pv_read.proofs.AbsentBytes.{has_no, by_holds, not_behind, less_is_mark}
use Rattle.pv_read.proofs.Pieces.{made_have_no}

-- a text run holds no `<`
pub run_has_no_less : (run : List ℕ) → IsCharacterData IsReference run → has_no 60 run ≡ true
run_has_no_less run is = made_have_no IsReference reference_is 60 run less_is_mark refl refl refl is.are_pieces

-- bytes before the first `<` are determined
pub same_cut : (xs ys rest more : List ℕ) → has_no 60 xs ≡ true → has_no 60 ys ≡ true → IsRunEnd rest → IsRunEnd more → xs ++ rest ≡ ys ++ more → (xs ≡ ys) × (rest ≡ more)
same_cut [] [] rest more p q a b e = (refl, e)
same_cut [] (y ∷ ys) rest more p q (inl none) b e = let f = sym none ∙ e in cc
same_cut [] (y ∷ ys) rest more p q (inr less) b e =
    let f : 60 ∷ less.0 ≡ y ∷ (ys ++ more) = sym less.1 ∙ e in
    let same : y ≡ 60 = cc in
    absurd (not_behind 60 [] ys (subst (λ (b : ℕ). has_no 60 (b ∷ ys) ≡ true) same q))
same_cut (x ∷ xs) [] rest more p q a (inl none) e = let f = e ∙ none in cc
same_cut (x ∷ xs) [] rest more p q a (inr less) e =
    let f : x ∷ (xs ++ rest) ≡ 60 ∷ less.0 = e ∙ less.1 in
    let same : x ≡ 60 = cc in
    absurd (not_behind 60 [] xs (subst (λ (b : ℕ). has_no 60 (b ∷ xs) ≡ true) same p))
same_cut (x ∷ xs) (y ∷ ys) rest more p q a b e =
    let head : x ≡ y = cc in
    let tail : xs ++ rest ≡ ys ++ more = cc in
    let below = same_cut xs ys rest more (others x xs p) (others y ys q) a b tail in
    ((λ i. head i ∷ below.0 i), below.1)
  where
    others : (z : ℕ) (zs : List ℕ) → has_no 60 (z ∷ zs) ≡ true → has_no 60 zs ≡ true
    others z zs f = (and_parts (not (z == 60)) (has_no 60 zs) f).1

pub same_run : (run rest other more bytes : List ℕ) → BeginsItem (text_run run) bytes rest → BeginsItem (text_run other) bytes more → (run ≡ other) × (rest ≡ more)
same_run run rest other more bytes b c = same_cut run other rest more (run_has_no_less run b.has_form) (run_has_no_less other c.has_form) b.ends_well c.ends_well (sym b.whole ∙ c.whole)

-- where the bytes before the first `<` are no character data, no text run stands there
pub no_run : (bytes run rest : List ℕ) → bytes ≡ run ++ rest → (ContainsBytes run (codes "<") → ⊥) → IsRunEnd rest → (IsCharacterData IsReference run → ⊥) → BeginsNoneOf sort.Text bytes
no_run bytes run rest e free ends none (text_run other) more is b =
    let same = (same_cut other run more rest (run_has_no_less other b.has_form) (by_holds 60 run free) b.ends_well ends (sym b.whole ∙ e)).0 in
    none (subst (λ (l : List ℕ). IsCharacterData IsReference l) same b.has_form)
no_run bytes run rest e free ends none i more is b = cc

-- a test by a reader says exactly whether something holds
pub exact_where : {A : Type 0} (r : Option A) (t : Bool) (H N : Type 0) (Q : A → Type 0) → (N → H → ⊥) → ((x : A) → Q x → H) → t ≡ is_some r → MatchOption r N Q → (IsTrue t → H) × (H → IsTrue t)
exact_where (Some x) t H N Q never holds e m = ((λ is. holds x m), (λ h. e))
exact_where None t H N Q never holds e m = ((λ is. let no : false ≡ true = sym e ∙ is in cc), (λ h. absurd (never m h)))
