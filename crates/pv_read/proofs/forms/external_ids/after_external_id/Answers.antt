use Rattle.pv_chars.specs.Fronts.{Begins, BeginsNone}
use Rattle.pv_tree.specs.Prolog.{IsPublicId, IsExternalId}
use Rattle.pv_chars.proofs.Options.{match_same}
use Rattle.pv_read.proofs.ExternalLemmas.{external_by_public, no_external}
use Rattle.pv_read.proofs.forms.external_ids.after_external_id.Goals as goal

pub returns-in-None : goal.returns-in-None
returns-in-None c =
    let bytes = c.args.bytes.now in
    match_same _ (BeginsNone IsPublicId bytes) (BeginsNone IsExternalId bytes) (λ r. Begins IsPublicId bytes r.now) (λ r. Begins IsExternalId bytes r.now)
    (no_external bytes c.in-None.ensures) (λ r b. external_by_public bytes r.now b) c.after_public_id.ensures
