use Rattle.std.proofs.Common.{◌≡◌, ◌≢◌, List, ℕ, ◌++◌, true, false}
use Rattle.std.specs.Prelude.{codes}
use Rattle.pv_read.specs.Kinds.{BeginsSubset}
use Rattle.pv_read.proofs.RunLemmas.{exact_where}
use Rattle.pv_read.proofs.DoctypeLemmas.{subset_by, no_subset_end, no_subset_front}
use Rattle.pv_read.proofs.forms.doctypes.begins_subset.Goals as goal

pub returns-in-Some : goal.returns-in-Some
returns-in-Some c =
    let bytes = c.args.bytes.now in
    let end = c.in-Some.end.now in
    exact_where c.after_bytes.result c.is_some.result (BeginsSubset bytes) ((more : List ℕ) → end ≢ codes "[" ++ more) (λ r. end ≡ codes "[" ++ r.now)
    (no_subset_end bytes c.in-Some.field-0-0.now end c.in-Some.ensures) (λ r e. subset_by bytes c.in-Some.field-0-0.now end r.now c.in-Some.ensures e) c.is_some.ensures c.after_bytes.ensures.found

pub returns-in-None : goal.returns-in-None
returns-in-None c = ((λ t. let no : false ≡ true = t in cc), (λ s. absurd (no_subset_front c.args.bytes.now c.in-None.ensures s)))
