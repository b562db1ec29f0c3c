-- The text run at the front, and that it is the only one.
use Rattle.std.proofs.Common.{◌≡◌, ℕ, List, ◌++◌, Ok, Err, codes, sym, ◌∙◌, subst}
use Rattle.pv_chars.specs.Fronts.{ContainsBytes}
use Rattle.pv_chars.specs.Units.{units_in, TextMeans}
use Rattle.pv_chars.specs.declared.errors.TextError.{TextError}
use Rattle.pv_chars.proofs.MeansLemmas.{text_means_only}
use Rattle.pv_read.specs.Items.{text_run, IsRunEnd, BeginsItem}
use Rattle.pv_read.specs.TextRuns.{BeginsText, BeginsNoText}
use Rattle.pv_read.proofs.AbsentBytes.{by_holds}
use Rattle.pv_read.proofs.RunLemmas.{run_has_no_less, same_cut}
use Rattle.pv_read.proofs.TextLaw.{texts_are_runs, units_are_character_data, character_data_is_units}

pub text_begins : (bytes run rest : List ℕ) (units : List (List ℕ)) → bytes ≡ run ++ rest → IsRunEnd rest → TextMeans run (Ok units) → BeginsText bytes units rest
text_begins bytes run rest units whole end means =
    let known = units_are_character_data run units means in
    record { run = run; begins = subst (λ b. BeginsItem (text_run run) b rest) (sym whole) (texts_are_runs run rest units means end); known = known.0; units_are = known.1 }

pub no_text_begins : (bytes run rest : List ℕ) (e : TextError) → bytes ≡ run ++ rest → (ContainsBytes run (codes "<") → ⊥) → IsRunEnd rest → TextMeans run (Err e) → BeginsNoText bytes
no_text_begins bytes run rest e whole free end means other more begins known =
    let same = (same_cut run other rest more (by_holds 60 run free) (run_has_no_less other begins.has_form) end begins.ends_well (sym whole ∙ begins.whole)).0 in
    let units = text_means_only run _ _ means (subst (λ r. TextMeans r (Ok (units_in other))) (sym same) (character_data_is_units other known)) in
    cc
