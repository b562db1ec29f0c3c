-- What a command writes.
use Rattle.std.specs.Prelude.{ℕ, List, ◌++◌, codes}
use Rattle.pv_opening.specs.declared.status.Status.{Status}
use Rattle.pv_opening.specs.declared.response.Response.{Response}

-- a status, and the bytes
pub record PlainResponse : Type 0 where
  pub status : Status
  pub output : List ℕ

-- one line, with its LF
abbrev pub with_line : Status → List ℕ → PlainResponse
with_line status text = record { status = status; output = text ++ codes "\n" }

-- a response, seen as plain data
abbrev pub plain_response : Response → PlainResponse
plain_response r = record { status = r.status; output = r.output.items }
