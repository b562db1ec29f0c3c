use Rattle.std.proofs.Common.{◌≡◌, ℕ, List, option_map, Option, Some, None, sym}
use Rattle.std.specs.Option.{MatchOption}
use Rattle.pv_chars.specs.Names.{TakesName, BeginsNoName}
use Rattle.pv_chars.specs.CharReading.{name_at}
use Rattle.pv_chars.proofs.NameBytes.{taken_is_read, none_is_read}
use Rattle.pv_chars.proofs.char_reading.name_at.Goals as goal

read : {A : Type 0} (f : A → List ℕ × List ℕ) (bytes : List ℕ) (o : Option A) → MatchOption o (BeginsNoName bytes) (λ r. TakesName bytes (f r).0 (f r).1) → option_map f o ≡ name_at bytes
read f bytes None m = sym (none_is_read bytes m)
read f bytes (Some r) m = sym (taken_is_read bytes (f r).0 (f r).1 m)

pub returns-clause-name : goal.returns-clause-name
returns-clause-name c = read (λ r. (r.0.now, r.1.now)) c.args.bytes.now _ c.name_at.ensures.found
