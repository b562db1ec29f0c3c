-- Reading the denial of a command.
use Rattle.std.specs.Prelude.{◌≡◌, ℕ, List, ◌++◌, codes, decimal, Option}
use Rattle.pv_denial.specs.declared.denials.Denial.{Denial}
use Rattle.pv_denial_text.specs.Meaning.{DenialMeans, MAX_DENIAL_BYTES, is_denial, is_fault}
use Rattle.pv_denial_text.specs.Meaning.{is_past_limit}
use Rattle.pv_opening.specs.declared.status.Status.TheVariants.{BadPack, Limit}
use Rattle.pv_opening.specs.Opening.{file_stage}
use Rattle.pv_opening.specs.Response.{PlainResponse, with_line}
use Rattle.pv_opening.specs.Stage.{Stage, without_fetch}

-- the response to bytes that are no denial: after so many whole lines stands none that may stand
-- there; or the rows have too many values
pub data RefusesDenial (bytes : List ℕ) (r : PlainResponse) : Type 0 where
  no_denial : (k : ℕ) → DenialMeans bytes (is_fault k) →
      r ≡ with_line BadPack (codes "table line " ++ decimal k) → RefusesDenial bytes r
  too_large : DenialMeans bytes is_past_limit → r ≡ with_line Limit (codes "limit table") →
      RefusesDenial bytes r

-- reading a denial
abbrev pub denial_stage : List ℕ → Stage Denial
denial_stage bytes =
    without_fetch (λ denial. DenialMeans bytes (is_denial denial)) (RefusesDenial bytes)

-- the denial of a file
abbrev pub denial_file_stage : Option (List ℕ) → Stage Denial
denial_file_stage file = file_stage file MAX_DENIAL_BYTES (codes "limit table-file") denial_stage
