use Rattle.pv_params.proofs.Steps.{opens_parameter, opens_declaration}
use Rattle.pv_params.proofs.open_texts.handle.Goals as goal

pub returns-in-Err-clause-stopped : goal.returns-in-Err-clause-stopped
returns-in-Err-clause-stopped c = rw c.in-Reference.is c.in-Err.ensures.stopped

pub returns-in_ok-inner-in-Parameter-clause-opened : goal.returns-in_ok-inner-in-Parameter-clause-opened
returns-in_ok-inner-in-Parameter-clause-opened c =
    rw c.in-Parameter.is (opens_parameter _ _ _ _ _ _ _ _ _ c.in_ok-inner-in-Parameter.ensures
    c.in_ok-name-in-Parameter.ensures.items c.take_result-result.ensures.taken
    c.take_result-result.ensures.after)

pub returns-in_ok-inner-in-Declaration-clause-opened : goal.returns-in_ok-inner-in-Declaration-clause-opened
returns-in_ok-inner-in-Declaration-clause-opened c =
    rw c.in-Declaration.is (opens_declaration _ _ _ _ _ _ _ c.in_ok-inner-in-Declaration.ensures c.in_ok-put-in-Declaration.ensures)
