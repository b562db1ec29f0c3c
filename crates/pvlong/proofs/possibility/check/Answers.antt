use Rattle.std.proofs.Common.{◌≡◌, Err, arith, refl}
use Rattle.std.proofs.lemmas.Grind.{common_steps}
use Rattle.pv_opening.specs.Stage.{short_of_memory}
use Rattle.pv_opening.specs.declared.stop.Stop.TheVariants.{NoMemory}
use Rattle.pvlong.proofs.possibility.check.Goals as goal

pub returns-in_err-grammar : goal.returns-in_err-grammar
returns-in_err-grammar c =
    let out : c.from_residual.result ≡ Err NoMemory = grind (arith, common_steps) in
    rw out (short_of_memory 0 refl refl)

pub returns : goal.returns
returns c = rw (c.in_ok-grammar.ensures, c.deref.ensures.value) at c.check_bytes.ensures
