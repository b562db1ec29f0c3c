use Rattle.std.proofs.Common.{◌≡◌, ℕ, List}
use Rattle.pv_params.specs.Meaning.{Fault, conditional, external, undeclared, recursive, limit, syntax, Expands, faulty}
use Rattle.pv_opening.specs.Parameters.{RefusesParameters, not_expanded, parameters_refusal}
use Rattle.pv_opening.specs.Returns.{RefusesWith}
use Rattle.pv_opening.specs.declared.stop.Stop.{Stop}
use Rattle.pv_opening.proofs.Stages.{stops_as}
use Rattle.pv_opening.proofs.opening.refuse_parameters.Goals as goal

-- a stop with the response to the first fault
refused : (bytes : List ℕ) (fault : Fault) (stop : Stop) → Expands bytes (faulty fault) → RefusesWith (λ r. r ≡ parameters_refusal fault) stop → RefusesWith (RefusesParameters bytes) stop
refused bytes fault stop expands stops = stops_as (λ r. r ≡ parameters_refusal fault) (RefusesParameters bytes) stop (λ r e. not_expanded fault expands e) stops

pub returns-in-Conditional : goal.returns-in-Conditional
returns-in-Conditional c = λ bytes expands. refused bytes conditional _ (rw c.in-Conditional.is at expands) c.refuse.ensures

pub returns-in-External : goal.returns-in-External
returns-in-External c = λ bytes expands. refused bytes external _ (rw c.in-External.is at expands) c.refuse-in-External.ensures

pub returns-in-Undeclared : goal.returns-in-Undeclared
returns-in-Undeclared c = λ bytes expands. refused bytes undeclared _ (rw c.in-Undeclared.is at expands) c.refuse-in-Undeclared.ensures

pub returns-in-Recursive : goal.returns-in-Recursive
returns-in-Recursive c = λ bytes expands. refused bytes recursive _ (rw c.in-Recursive.is at expands) c.refuse-in-Recursive.ensures

pub returns-in-Syntax : goal.returns-in-Syntax
returns-in-Syntax c = λ bytes expands. refused bytes syntax _ (rw c.in-Syntax.is at expands) c.refuse-in-Syntax.ensures

pub returns-in-Limit : goal.returns-in-Limit
returns-in-Limit c = λ bytes expands. refused bytes limit _ (rw c.in-Limit.is at expands) c.refuse-in-Limit.ensures
