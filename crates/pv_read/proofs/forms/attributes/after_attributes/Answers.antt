use Rattle.pv_tree.specs.Attributes.{IsAttribute}
use Rattle.pv_read.specs.PlainReferences.{IsReferenceOf}
use Rattle.pv_read.proofs.KnownReferences.{are_references}
use Rattle.pv_read.proofs.AttributeLemmas.{no_pieces, piece_more, pieces_end, attribute_shorter}
use Rattle.pv_read.proofs.forms.attributes.after_attributes.Goals as goal

pub attributes-init : goal.attributes-init
attributes-init c = no_pieces (IsAttribute (IsReferenceOf c.args.references)) c.args.bytes.now

pub attributes-preserved : goal.attributes-preserved
attributes-preserved c = piece_more (IsAttribute (IsReferenceOf c.args.references)) c.args.bytes.now c.attributes.rest.now c.in-Some.more.now c.attributes.invariant c.in-Some.ensures

pub attributes-smaller : goal.attributes-smaller
attributes-smaller c = attribute_shorter (IsReferenceOf c.args.references) (are_references c.args.references) c.attributes.rest.now c.in-Some.more.now c.in-Some.ensures

pub returns : goal.returns
returns c = pieces_end (IsAttribute (IsReferenceOf c.args.references)) c.args.bytes.now c.attributes.rest.now c.attributes.invariant c.in_default.ensures
