-- The word before a change in which tokens came in place of others.
use Rattle.std.proofs.Common.{List, Option, length, map, subst, sym, ℕ, ◌+◌, ◌≡◌, ◌≤◌}
use Rattle.std.specs.List.{between, splice}
use Rattle.std.specs.Option.{option_map}
use Rattle.pv_dtd.specs.Plain.{PlainDtd}
use Rattle.pv_missing.specs.PlainForms.{plain_of}
use Rattle.pv_missing.specs.declared.owners.Of.{Of}
use Rattle.pv_model.specs.PlainForms.{plain_token}
use Rattle.pv_model.specs.declared.models.Token.{Token}
use Rattle.pv_verdicts.specs.Judged.{IsJudged}
use Rattle.pv_verdicts.specs.declared.judged.Judged.{Judged}
use Rattle.pv_verdicts.proofs.SplicedLists.{spliced_back}

pub judged_before : (g : PlainDtd) (owner : Option Of) (judged : Judged)
    (word came after : List Token) (from to : ℕ) → from ≤ to → to ≤ length word →
    after ≡ splice word from to came →
    IsJudged g (option_map plain_of owner) (map plain_token word) judged →
    IsJudged g (option_map plain_of owner)
    (map plain_token (splice after from (from + length came) (between from to word))) judged
judged_before g owner judged word came after from to order within is h =
    let P : List Token → Type 0 =
    λ v. IsJudged g (option_map plain_of owner) (map plain_token v) judged in
    let F : List Token → List Token =
    λ v. splice v from (from + length came) (between from to word) in
    let back : F after ≡ word = rw is (spliced_back word came from to order within) in
    subst P (sym back) h
