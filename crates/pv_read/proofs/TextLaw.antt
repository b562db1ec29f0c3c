-- A text that is units is character data in which each reference is known.
use Rattle.std.proofs.Common.{◌≡◌, ◌≢◌, inl, inr, ℕ, List, [], ◌∷◌, ◌++◌, ◌||◌, Bool, true, false, Result, Ok, codes, refl, sym, ap, ◌∙◌, subst, append-nil, append_assoc}
use Rattle.std.specs.List.{AllByRecursion}
use Rattle.pv_chars.specs.Fronts.{ContainsBytes}
use Rattle.pv_chars.specs.Texts.{joined, begins_close_mark, holds_close_mark}
use Rattle.pv_chars.specs.Units.{AllUnits, units_in, BeginsCloseMark, TextRestMeans, ends, unit, fault, TextMeans}
use Rattle.pv_chars.specs.declared.errors.TextError.{TextError}
use Rattle.pv_chars.proofs.CloseMarks.{begins_bytes, held_by_units}
use Rattle.pv_chars.proofs.CutLemmas.{units_in-joined}
use Rattle.pv_tree.specs.Attributes.{IsTextPiece, IsCharacterData, IsKnownReference}
use Rattle.pv_read.specs.Items.{text_run, IsRunEnd, BeginsItem}
use Rattle.pv_read.proofs.AgreeForms.{data_form}
use Rattle.pv_read.proofs.DocumentFacts.{pieces_are_units, units_are_pieces}

-- units that hold no `]]>` mean themselves
units_mean : (before units : List (List ℕ)) → AllUnits units → (ContainsBytes (joined units) (codes "]]>") → ⊥) → TextRestMeans before (joined units) (Ok (before ++ units))
units_mean before [] all none = subst (λ us. TextRestMeans before [] (Ok us)) (sym (append-nil before)) (ends refl)
units_mean before (u ∷ us) all none =
    let below = units_mean (before ++ u ∷ []) us all.1
    (λ h. none record {
      before = u ++ h.before;
      after = h.after;
      whole = ap (λ l. u
          ++ l) h.whole ∙ sym (append_assoc u h.before (codes "]]>" ++ h.after));
    }) in
    unit u (joined us) (record { is_unit = all.0; whole = refl; no_close_mark = λ b. none record { before = []; after = b.0; whole = b.1 } })
    (subst (λ out. TextRestMeans (before ++ u ∷ []) (joined us) (Ok out)) (append_assoc before (u ∷ []) us) below)

pub character_data_is_units : (run : List ℕ) → IsCharacterData IsKnownReference run → TextMeans run (Ok (units_in run))
character_data_is_units run d =
    let pieces = d.are_pieces.pieces in
    let means = units_mean [] pieces (pieces_are_units pieces d.are_pieces.are_pieces) (λ h. d.no_close_mark (subst (λ b. ContainsBytes b (codes "]]>")) (sym d.are_pieces.whole) h)) in
    inr (d.some, subst (λ us. TextRestMeans [] run (Ok us)) (sym (units_are_pieces run d)) (subst (λ b. TextRestMeans [] b (Ok pieces)) (sym d.are_pieces.whole) means))

-- What means these units is made of them.
record Leaves (before : List (List ℕ)) (rest : List ℕ) (out : List (List ℕ)) : Type 0 where
  units : List (List ℕ)
  are_units : AllUnits units
  is_out : out ≡ before ++ units
  whole : rest ≡ joined units
  no_close_mark : holds_close_mark units ≡ false

one_more : (u : List ℕ) (us : List (List ℕ)) (begins : Bool) → begins_close_mark (u ∷ us) ≡ begins →
    (BeginsCloseMark (joined (u ∷ us)) → ⊥) → holds_close_mark us ≡ false →
    (begins || holds_close_mark us) ≡ false
one_more u us true is none below = absurd (none (begins_bytes (u ∷ us) is))
one_more u us false is none below = below

leaves : {before : List (List ℕ)} {rest : List ℕ} {o : Result (List (List ℕ)) TextError} (out : List (List ℕ)) → o ≡ Ok out → TextRestMeans before rest o → Leaves before rest out
leaves {before} out is (ends none) = record { units = []; are_units = tt; is_out = (let same : before ≡ out = cc in sym same) ∙ sym (append-nil before); whole = none; no_close_mark = refl }
leaves {before} {rest} out is (unit u more begins means) =
    let below = leaves out is means in
    let whole : rest ≡ joined (u ∷ below.units) = begins.whole ∙ ap (λ l. u ++ l) below.whole in
    record {
      units = u ∷ below.units;
      are_units = (begins.is_unit, below.are_units);
      is_out = below.is_out ∙ append_assoc before (u ∷ []) below.units;
      whole = whole;
      no_close_mark = one_more u below.units (begins_close_mark (u ∷ below.units)) refl (λ b. begins.no_close_mark (b.0, whole ∙ b.1)) below.no_close_mark;
    }
leaves out is (fault e f) = cc

units_are_texts : (units : List (List ℕ)) → AllUnits units → AllByRecursion (IsTextPiece IsKnownReference) units
units_are_texts [] all = tt
units_are_texts (u ∷ us) all = (all.0, units_are_texts us all.1)

data_of : (run : List ℕ) (units : List (List ℕ)) → run ≢ [] → Leaves [] run units → IsCharacterData IsKnownReference run × (units ≡ units_in run)
data_of run units some l =
    let same : units_in run ≡ l.units = ap units_in l.whole ∙ units_in-joined l.units l.are_units in (
      record {
        some = some;
        are_pieces = record { pieces = l.units; are_pieces = units_are_texts l.units l.are_units; whole = l.whole };
        no_close_mark = λ h. let held = held_by_units l.units l.are_units (subst (λ b. ContainsBytes b (codes "]]>")) l.whole h) in let none = l.no_close_mark in cc;
      },
      l.is_out ∙ sym same,
    )

pub units_are_character_data : (run : List ℕ) (units : List (List ℕ)) → TextMeans run (Ok units) → IsCharacterData IsKnownReference run × (units ≡ units_in run)
units_are_character_data run units (inl empty) = let no = empty.1 in cc
units_are_character_data run units (inr means) = data_of run units means.0 (leaves units refl means.1)

pub texts_are_runs : (run rest : List ℕ) (units : List (List ℕ)) → TextMeans run (Ok units) → IsRunEnd rest → BeginsItem (text_run run) (run ++ rest) rest
texts_are_runs run rest units means ends_run = record { has_form = data_form run (units_are_character_data run units means).0; whole = refl; ends_well = ends_run }
