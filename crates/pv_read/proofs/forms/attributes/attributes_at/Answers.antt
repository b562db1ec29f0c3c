use Rattle.pv_read.specs.PlainReferences.{IsReferenceOf}
use Rattle.pv_read.proofs.KnownReferences.{are_references}
use Rattle.pv_read.proofs.AttributeLemmas.{takes_attributes}
use Rattle.pv_read.proofs.forms.attributes.attributes_at.Goals as goal

pub returns : goal.returns
returns c =
    rw (c.split_at.ensures.front, c.split_at.ensures.back)
    (takes_attributes (IsReferenceOf c.args.references) (are_references c.args.references)
    c.args.bytes.now c.after_attributes.result.now c.after_space-rest.result.now
    c.after_attributes.ensures c.after_space-rest.ensures.taken)
