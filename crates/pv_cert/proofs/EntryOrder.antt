-- An entry that doesn't ascend.
use Rattle.std.proofs.Common.{◌≡◌, ℕ, List, Option, sym, subst, ◌∙◌}
use Rattle.pv_tables.specs.declared.tables.Entry.{Entry}
use Rattle.pv_cert.specs.Fronts.{Begins}
use Rattle.pv_cert.specs.Lines.{entry_line}
use Rattle.pv_cert.specs.Steps.{Follows, StandsNoEntry, line_before}
use Rattle.pv_cert.proofs.OneLine.{same-entry}
use Rattle.pv_cert.proofs.TableLines.{follows-back}

pub none-follows : (bytes rest : List ℕ) (next : Entry) (last : Option Entry) →
    Begins bytes (entry_line next) rest → (Follows last next → ⊥) → (path : List ℕ) →
    StandsNoEntry (line_before path last) bytes
none-follows bytes rest next last b n path e more s =
    let same = same-entry next e rest more b.in_range s.begins.in_range (sym b.whole ∙ s.begins.whole) in
    let equal : e ≡ next = cc (same.lines) in
    n (subst (λ f. Follows last f) equal (follows-back path last e s.may_follow))
