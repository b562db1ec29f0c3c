-- The ways back lead to the opened document.
use Rattle.std.proofs.Common.{List, [], ap, sym, ℕ, ◌∙◌, ◌∷◌, ◌≡◌}
use Rattle.pv_dtd.specs.Plain.{PlainDtd}
use Rattle.pv_edit.specs.Inverses.{LeadsBack, doc_back}
use Rattle.pv_edit.specs.Laws.{LeadsToOne}
use Rattle.pv_edit.specs.Reasons.{gives}
use Rattle.pv_edit.specs.declared.edits.Edit.{Edit}
use Rattle.pv_edit.specs.declared.inverses.Inverse.{Inverse}
use Rattle.pv_session.specs.SessionFacts.{IsEditMade, LeadsTo, opened_doc}
use Rattle.pv_session.proofs.StampsAlone.{unmarked_bare}
use Rattle.pv_tree.specs.Plain.{PlainDoc}

-- an inverse makes the document before an edit of that after it
undoes_made : LeadsToOne Unit → (g : PlainDtd) (root : List ℕ) (doc : PlainDoc Unit) (edit : Edit)
    (way : Inverse) (next : PlainDoc Unit) → IsEditMade g root doc edit way next → doc_back tt next way ≡ doc
undoes_made one g root doc edit way next made =
    let l : LeadsBack way next doc = record { edit = edit; kept = made.kept; is_edited = made.accepted.is_edited ∙ ap gives (sym (unmarked_bare next)); is_inverse = made.is_inverse } in
    ap (λ (d : PlainDoc Unit). doc_back tt d way) (sym (unmarked_bare next)) ∙ one way next doc l

pub led_opened : LeadsToOne Unit → (g : PlainDtd) (root : List ℕ) (opened after : PlainDoc Unit)
    (edits : List Edit) (ways : List Inverse) → LeadsTo g root opened edits ways after →
    opened_doc ways after ≡ opened
led_opened one g root opened after [] [] l = l
led_opened one g root opened after [] (way ∷ ways) l = absurd l
led_opened one g root opened after (edit ∷ edits) [] l = absurd l
led_opened one g root opened after (edit ∷ edits) (way ∷ ways) (next, holdable, made, l) =
    ap (λ (d : PlainDoc Unit). doc_back tt d way) (led_opened one g root next after edits ways l) ∙ undoes_made one g root opened edit way next made
