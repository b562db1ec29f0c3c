-- The parameter entities of a DTD's file, put in place.
use Rattle.std.specs.Prelude.{◌≡◌, ℕ, Bool, true, false, List, codes}
use Rattle.pv_params.specs.Meaning.{Fault, conditional, external, undeclared, recursive, limit}
use Rattle.pv_params.specs.Meaning.{syntax, Expands, expanded, faulty}
use Rattle.pv_opening.specs.declared.status.Status.TheVariants.{BadDtd, Limit}
use Rattle.pv_opening.specs.Response.{PlainResponse, with_line}
use Rattle.pv_opening.specs.Stage.{Stage, without_fetch}

-- the response to a file whose parameter entities have this fault
abbrev pub parameters_refusal : Fault → PlainResponse
parameters_refusal conditional = with_line BadDtd (codes "dtd param conditional")
parameters_refusal external = with_line BadDtd (codes "dtd param external")
parameters_refusal undeclared = with_line BadDtd (codes "dtd param undeclared")
parameters_refusal recursive = with_line BadDtd (codes "dtd param recursive")
parameters_refusal limit = with_line Limit (codes "limit params")
parameters_refusal syntax = with_line BadDtd (codes "dtd param syntax")

-- whether a fault is a limit that is passed
abbrev pub is_parameters_limit : Fault → Bool
is_parameters_limit limit = true
is_parameters_limit other = false

-- the response to bytes whose parameter entities can't be put in place
pub data RefusesParameters (bytes : List ℕ) (r : PlainResponse) : Type 0 where
  not_expanded : (fault : Fault) → Expands bytes (faulty fault) → r ≡ parameters_refusal fault →
      RefusesParameters bytes r

-- putting the parameter entities of a file in place
abbrev pub expansion_stage : List ℕ → Stage (List ℕ)
expansion_stage bytes =
    without_fetch (λ text. Expands bytes (expanded text)) (RefusesParameters bytes)
