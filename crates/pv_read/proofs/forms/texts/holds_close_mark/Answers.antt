use Rattle.std.specs.Prelude.{codes}
use Rattle.pv_chars.specs.Fronts.{ContainsBytes, EndsAt}
use Rattle.pv_read.proofs.RunLemmas.{exact_where}
use Rattle.pv_read.proofs.forms.texts.holds_close_mark.Goals as goal

pub returns : goal.returns
returns c =
    let bytes = c.args.bytes.now in
    exact_where c.up_to.result c.is_some.result (ContainsBytes bytes (codes "]]>")) (ContainsBytes bytes (codes "]]>") → ⊥) (λ r. EndsAt (codes "]]>") bytes r.0.now r.1.now)
    (λ none h. none h) (λ r ends. record { before = r.0.now; after = r.1.now; whole = ends.whole }) c.is_some.ensures c.up_to.ensures
