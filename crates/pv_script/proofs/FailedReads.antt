-- What a reader answers by what another answered.
use Rattle.std.proofs.Common.{◌≡◌, Option, Some, None, Err, refl}
use Rattle.std.specs.Option.{MatchOption, ok_or}
use Rattle.std.specs.Result.{MatchResult}
use Rattle.pv_script.specs.Commands.{ReadsAs}
use Rattle.pv_script.specs.declared.errors.CommandError.{CommandError}
use Rattle.pv_script.specs.declared.errors.CommandError.TheVariants.{Unknown, NoMemory}

-- there is none here where there is none there, and memory that was wanting there is wanting here
pub reads-err : {A B : Type 0} (o : Option A) (p : Option B) (error : CommandError) → (o ≡ None → p ≡ None) → ReadsAs o (Err error) → ReadsAs p (Err error)
reads-err o p Unknown none reads = none reads
reads-err o p NoMemory none reads = tt

-- what isn't there is no command
pub unknown-or : {X : Type 0} (r : Option X) (P : Type 0) (F : X → Type 0) → MatchOption r P F → MatchResult (ok_or r Unknown) F (λ error. (error ≡ Unknown) × P)
unknown-or None P F m = (refl, m)
unknown-or (Some x) P F m = m
