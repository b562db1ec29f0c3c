-- A run of simple characters is a text run in which each reference is known, and stands in an element without fault.
use Rattle.std.proofs.Common.{Option, ◌≡◌, ◌≢◌, ℕ, List, [], ◌++◌, Ok, inr, true, false, refl, sym, subst}
use Rattle.std.specs.List.{list_all}
use Rattle.pv_chars.specs.Units.{is_simple, units_in, TextMeans}
use Rattle.pv_chars.proofs.MeansLemmas.{simple_units}
use Rattle.pv_tree.specs.Marks.{blank_mark}
use Rattle.pv_tree.specs.Plain.{text_node}
use Rattle.pv_tree.specs.declared.nodes.Mark.{Mark}
use Rattle.pv_read.specs.Items.{text_run, IsRunEnd, BeginsItem}
use Rattle.pv_read.specs.Left.{Left, in_prolog, in_content, in_epilog, with_kid}
use Rattle.pv_read.specs.Places.{place_reached, content}
use Rattle.pv_read.specs.Steps.{TakesItem}
use Rattle.pv_read.proofs.NextItems.{takes}
use Rattle.pv_read.proofs.OneItem.{one_item}
use Rattle.pv_read.proofs.TextLaw.{texts_are_runs, units_are_character_data}
use Rattle.pv_lists.specs.Runs.{BeginsKnownRun}

pub simple_begins : (bytes run rest : List ℕ) → bytes ≡ run ++ rest → IsRunEnd rest → run ≢ [] → list_all is_simple run ≡ true → BeginsKnownRun bytes run rest
simple_begins bytes run rest whole end some simple =
    let units = simple_units run simple in
    let means : TextMeans run (Ok units.units) = inr (some, units.means) in
    record {
      begins = subst (λ (b : List ℕ). BeginsItem (text_run run) b rest) (sym whole) (texts_are_runs run rest units.units means end);
      known = (units_are_character_data run units.units means).0;
    }

no_empty : false ≡ true → ⊥
no_empty e = cc

pub run_taken : (most : Option ℕ) (root rest run more name : List ℕ) (many : ℕ) (left : Left Mark) →
    place_reached left ≡ content name many → BeginsKnownRun rest run more →
    TakesItem most blank_mark root left rest (text_run run) more
run_taken most root rest run more name many (in_prolog stage before) at r = absurd cc
run_taken most root rest run more name many (in_content before inner outer) at r =
    takes one_item most blank_mark root (in_content before inner outer) rest (λ h. no_empty h.0) (text_run run) more r.begins
    (in_content before (with_kid inner (text_node (units_in run))) outer) refl r.known (λ h. h) (λ h. h) (λ h. no_empty h.0)
run_taken most root rest run more name many (in_epilog before t after) at r = absurd cc
