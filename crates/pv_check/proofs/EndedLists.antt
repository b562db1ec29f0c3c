-- What is found with a list that ends.
use Rattle.std.proofs.Common.{◌≡◌, ℕ, ◌+◌, List, ◌∷◌, ◌++◌, length, true, false, Some}
use Rattle.std.proofs.Common.{Result, Ok, Err, OnOk, sym, ap, ◌∙◌, subst}
use Rattle.std.specs.List.{AllByRecursion}
use Rattle.std.proofs.lemmas.List.{length-map}
use Rattle.pv_model.specs.PlainForms.{plain_token}
use Rattle.pv_model.specs.declared.models.Token.{Token}
use Rattle.pv_dtd.specs.Plain.{PlainDtd}
use Rattle.pv_tree.specs.Lists.{Listed}
use Rattle.pv_tree.specs.Plain.{Tree, forest_of}
use Rattle.pv_tree.specs.Words.{word_of}
use Rattle.pv_tree.specs.declared.nodes.Mark.{Mark}
use Rattle.pv_lists.specs.Judgements.{IsEnded}
use Rattle.pv_lists.specs.WholeLists.{TellsWhether}
use Rattle.pv_lists.specs.declared.open.OpenList.{OpenList}
use Rattle.pv_check.specs.Findings.{HasFound, HasNoted}
use Rattle.pv_check.specs.ListJudgements.{IsListWithin, IsNarrowAndLive}
use Rattle.pv_check.specs.declared.findings.Findings.{Findings}
use Rattle.pv_check.specs.declared.findings.Noted.{Noted}
use Rattle.pv_check.specs.declared.widths.Widths.{Widths}
use Rattle.pv_check.proofs.InsertedLists.{kept_behind, wide_behind, wide_narrow, wide_found}

pub on_ok : {E A : Type 0} (r : Result (Unit {0}) E) → A → OnOk r A
on_ok (Ok u) a = a
on_ok (Err e) a = tt

-- how many tokens the list has
pub word_length : {B : Type 0} {g : PlainDtd} {list : OpenList B} {word : List Token} {kids : List (Tree Mark)} → IsEnded g list word kids → length word ≡ length (word_of g (forest_of kids))
word_length {word = word} whole = sym (length-map word plain_token) ∙ ap length whole.is_word

module _ (s : Widths) (g : PlainDtd) (root : List ℕ) (xs ys : List (Listed Mark)) (x : Listed Mark)
    (noted : Noted) (n : HasNoted s g root xs noted) where
  pub first_so_far : noted.any ≡ false → AllByRecursion (IsNarrowAndLive s g root) xs
  first_so_far is = subst (TellsWhether (IsNarrowAndLive s g root) xs) is n.any

  module _ (old new : Findings) (f : HasFound s g root (xs ++ ys) old) (behind : noted.any ≡ true)
      (first_is : new.first ≡ old.first) (possible_is : new.possible ≡ old.possible)
      (count_is : new.lists ≡ old.lists + 1) (kept_is : new.kept ≡ old.kept) where
    some : TellsWhether (IsNarrowAndLive s g root) xs true
    some = subst (TellsWhether (IsNarrowAndLive s g root) xs) behind n.any

    pub behind_wide : noted.wide ≡ true → new.wide ≡ old.wide → HasFound s g root (xs ++ x ∷ ys) new
    behind_wide wide wide_is =
        let before = subst (TellsWhether (IsListWithin s g) xs) wide n.wide in
        kept_behind s g root xs ys x old new f some
        (rw wide_is (wide_behind s g root xs ys x old new f before)) first_is possible_is count_is
        kept_is

    pub narrow_behind : IsListWithin s g x → new.wide ≡ old.wide →
        HasFound s g root (xs ++ x ∷ ys) new
    narrow_behind narrow wide_is =
        kept_behind s g root xs ys x old new f some
        (rw wide_is (wide_narrow s g root xs ys x old new f noted.wide n.wide narrow)) first_is
        possible_is count_is kept_is

    pub found_behind : (path : List ℕ) → noted.wide ≡ false → (IsListWithin s g x → ⊥) →
        new.wide ≡ Some path → path ≡ x.path → HasFound s g root (xs ++ x ∷ ys) new
    found_behind path none wide wide_is path_is =
        let before = subst (TellsWhether (IsListWithin s g) xs) none n.wide in
        kept_behind s g root xs ys x old new f some
        (wide_found s g root xs ys x old new f before wide
        (wide_is ∙ ap (λ (p : List ℕ). Some p) path_is)) first_is possible_is count_is kept_is
