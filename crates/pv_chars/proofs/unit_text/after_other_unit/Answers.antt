use Rattle.std.proofs.Common.{◌≡◌, ◌≢◌, ◌++◌, List, ℕ, sym, ◌∙◌}
use Rattle.std.specs.Prelude.{codes}
use Rattle.std.proofs.lemmas.Result.{MatchResult-weaker}
use Rattle.pv_chars.proofs.Options.{match_not_some}
use Rattle.pv_chars.proofs.MeansLemmas.{unit_fault_is, unit_by}
use Rattle.pv_chars.proofs.unit_text.after_other_unit.Goals as goal

pub returns : goal.returns
returns c =
    let bytes = c.args.bytes.now in
    let none : (rest : List ℕ) → bytes ≢ codes "]]>" ++ rest = match_not_some c.after_bytes.result
    ((rest : List ℕ) → bytes ≢ codes "]]>" ++ rest) (λ r. bytes ≡ codes "]]>" ++ r.now)
    (sym c.is_some.ensures ∙ c.if-is_some.false) c.after_bytes.ensures.found in
    MatchResult-weaker c.after_any_unit.result c.after_any_unit.ensures (λ r b. unit_by bytes r.now (λ mark. none mark.0 mark.1) b) (λ e f. unit_fault_is bytes c.args.at e f)
