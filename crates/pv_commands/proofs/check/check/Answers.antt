use Rattle.std.proofs.Common.{◌≡◌, Err, arith, refl}
use Rattle.std.proofs.lemmas.Grind.{common_steps}
use Rattle.pv_opening.specs.JudgedCounts.{judges_none, without_memory}
use Rattle.pv_opening.specs.Stage.{short_of_memory}
use Rattle.pv_opening.specs.declared.stop.Stop.TheVariants.{NoMemory}
use Rattle.pv_commands.proofs.check.check.Goals as goal

pub returns-in_err-grammar-clause-finds : goal.returns-in_err-grammar-clause-finds
returns-in_err-grammar-clause-finds g c =
    let out : c.from_residual.result ≡ Err NoMemory = grind (arith, common_steps) in
    rw out (short_of_memory 0 refl refl)

pub returns-in_err-grammar-clause-checks : goal.returns-in_err-grammar-clause-checks
returns-in_err-grammar-clause-checks g c =
    let out : c.from_residual.result ≡ Err NoMemory = grind (arith, common_steps) in
    rw out (judges_none (without_memory refl) refl)

pub returns-clause-finds : goal.returns-clause-finds
returns-clause-finds g c =
    rw (c.in_ok-grammar.ensures, c.deref.ensures.value) at c.check_under.ensures.finds

pub returns-clause-checks : goal.returns-clause-checks
returns-clause-checks g c =
    rw (c.in_ok-grammar.ensures, c.deref.ensures.value) at c.check_under.ensures.checks
