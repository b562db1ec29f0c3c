use Rattle.std.proofs.Common.{rules, ◌≡◌}
use Rattle.pv_cache.specs.VerdictsAfterChange.{inner_first}
use Rattle.pv_tree.specs.declared.nodes.Verdict.TheVariants as verdict
use Rattle.pv_cache.proofs.deciding.first_impossible.Goals as goal

pub returns-then-is_inner_impossible : goal.returns-then-is_inner_impossible
returns-then-is_inner_impossible c =
    let k = c.is_inner_impossible.ensures.is c.if-is_inner_impossible.true in
    let n : (c.args.verdicts.now.outer ≡ verdict.Impossible → ⊥) = search rules in
    let p : k.0.place ≡ c.args.from = rw k.1 at c.requires in
    inner_first k.0 n k.1 k.2 (rw p c.in_ok-kid_path.ensures)
