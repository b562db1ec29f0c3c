use Rattle.std.proofs.Common.{◌≡◌, [], true, sym, ◌∙◌, arith}
use Rattle.std.proofs.lemmas.Grind.{common_steps}
use Rattle.std.specs.List.{list_all}
use Rattle.pv_chars.specs.Units.{is_simple}
use Rattle.pv_lists.proofs.SimpleRuns.{simple_begins}
use Rattle.pv_lists.proofs.items.simple_run_at.Goals as goal

pub returns-clause-begins : goal.returns-clause-begins
returns-clause-begins c =
    let some : c.run_at.result.0.now ≡ [] → ⊥ = λ e. grind (arith, common_steps) in
    let simple : list_all is_simple c.run_at.result.0.now ≡ true = sym c.are_simple.ensures ∙ c.if-not-are_simple.false in
    simple_begins c.args.bytes.now c.run_at.result.0.now c.run_at.result.1.now c.run_at.ensures.whole c.run_at.ensures.ends some simple
