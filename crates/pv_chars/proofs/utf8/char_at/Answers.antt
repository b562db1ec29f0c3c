use Rattle.pv_chars.specs.Characters.{BeginsWith, BeginsWithNone}
use Rattle.pv_chars.specs.Utf8.{char_at}
use Rattle.pv_chars.proofs.Options.{match_mapped, match_some}
use Rattle.pv_chars.proofs.Utf8Lemmas.{char_at_reads, begins_shorter}
use Rattle.pv_chars.proofs.utf8.char_at.Goals as goal

pub returns-clause-found : goal.returns-clause-found
returns-clause-found c =
    let bytes = c.args.bytes.now in
    match_mapped _ _ (char_at bytes) (BeginsWithNone bytes) (λ p. BeginsWith bytes p.0 p.1) c.read_char.ensures (char_at_reads bytes)

pub returns-clause-shorter : goal.returns-clause-shorter
returns-clause-shorter c =
    let bytes = c.args.bytes.now in
    match_some _ (BeginsWithNone bytes) (λ r. BeginsWith bytes r.0 r.1.now) _ (λ r begins. begins_shorter bytes r.0 r.1.now begins) (returns-clause-found c)
