use Rattle.std.proofs.Common.{◌∙◌, sym, ap, List, ℕ}
use Rattle.pv_edit.specs.CloseMarks.{search_bytes}
use Rattle.pv_edit.proofs.SearchBytes.{units-searched}
use Rattle.pv_edit.proofs.close_marks.search_text.Goals as goal

pub returns : goal.returns
returns c =
    c.search_bytes.ensures ∙ ap (λ (b : List ℕ). search_bytes c.args.before b) c.bytes.ensures.value ∙ sym (units-searched c.args.before c.args.text.now c.bytes.ensures.legal)
