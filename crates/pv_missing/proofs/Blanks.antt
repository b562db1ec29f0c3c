-- White units and misc outside EMPTY change nothing.
use Rattle.std.proofs.Common.{Bool, List, ap, false, refl, subst, sym, true, ℕ, ◌↔◌, ◌∙◌, ◌≡◌}
use Rattle.pv_dtd.specs.Plain.{PlainDtd, number_of}
use Rattle.pv_dtd.specs.Hedge.{Hedge, Leaf, cdata, data_unit, done, elem, leaf, misc, white}
use Rattle.pv_missing.specs.DocumentLaws.{BlanksChangeNothing}
use Rattle.pv_missing.specs.SameMissing.{bare, is_empty_model, is_empty_number, keep_if}
use Rattle.pv_missing.proofs.AlikeCompletions.{unchanged}
use Rattle.pv_missing.proofs.AlikeHedges.{Alike, IsEmptyName, alike_blank, alike_done, alike_elem, alike_leaf}
use Rattle.pv_missing.proofs.SameCompletions.{same_missing}

keep_alike : (g : PlainDtd) (keep : Bool) (l : Leaf) (h h2 : Hedge) → Alike g h h2 → Alike g (leaf l h) (keep_if keep l h2)
keep_alike g true (white b) h h2 r = alike_leaf (white b) h h2 r
keep_alike g true (misc b) h h2 r = alike_leaf (misc b) h h2 r
keep_alike g true (data_unit b) h h2 r = alike_leaf (data_unit b) h h2 r
keep_alike g true (cdata b) h h2 r = alike_leaf (cdata b) h h2 r
keep_alike g false (white b) h h2 r = alike_blank (white b) h h2 tt r
keep_alike g false (misc b) h h2 r = alike_blank (misc b) h h2 tt r
keep_alike g false (data_unit b) h h2 r = alike_leaf (data_unit b) h h2 r
keep_alike g false (cdata b) h h2 r = alike_leaf (cdata b) h h2 r

empty_number : (g : PlainDtd) (x : List ℕ) → IsEmptyName g x → is_empty_number g (number_of g x) ≡ true
empty_number g x (y, e, f) = ap (is_empty_number g) e ∙ ap is_empty_model f

kept_none : (g : PlainDtd) (k : Hedge) → (k ≡ done) ↔ (bare g true k ≡ done)
kept_none g done = ((λ e. refl), (λ e. refl))
kept_none g (leaf (white b) h) = ((λ e. absurd cc), (λ e. absurd cc))
kept_none g (leaf (misc b) h) = ((λ e. absurd cc), (λ e. absurd cc))
kept_none g (leaf (data_unit b) h) = ((λ e. absurd cc), (λ e. absurd cc))
kept_none g (leaf (cdata b) h) = ((λ e. absurd cc), (λ e. absurd cc))
kept_none g (elem x t k h) = ((λ e. absurd cc), (λ e. absurd cc))

empty_none : (g : PlainDtd) (x : List ℕ) (k : Hedge) → IsEmptyName g x → (k ≡ done) ↔ (bare g (is_empty_number g (number_of g x)) k ≡ done)
empty_none g x k e = let P : Bool → Type 0 = λ b. (k ≡ done) ↔ (bare g b k ≡ done) in let q = sym (empty_number g x e) in subst P q (kept_none g k)

bare_alike : (g : PlainDtd) (keep : Bool) (h : Hedge) → Alike g h (bare g keep h)
bare_alike g keep done = alike_done
bare_alike g keep (leaf l h) = keep_alike g keep l h (bare g keep h) (bare_alike g keep h)
bare_alike g keep (elem x t k h) =
    alike_elem x t k (bare g (is_empty_number g (number_of g x)) k) h (bare g keep h) (λ e. empty_none g x k e)
    (bare_alike g (is_empty_number g (number_of g x)) k) (bare_alike g keep h)

pub blanks : BlanksChangeNothing
blanks g root x t k proper = same_missing g root (elem x t k done) (bare g false (elem x t k done)) (λ n.
    unchanged g root x t k (bare g (is_empty_number g (number_of g x)) k) n proper (λ e. empty_none g x k e) (bare_alike g (is_empty_number g (number_of g x)) k))
