use Rattle.std.proofs.Common.{refl}
use Rattle.pv_chars.proofs.DelimiterPlaces.{byte_nowhere}
use Rattle.pv_read.proofs.AbsentBytes.{by_holds}
use Rattle.pv_read.proofs.KnownLemmas.{known_attributes, known_where_read}
use Rattle.pv_read.proofs.forms.known.are_known_attributes.Goals as goal

pub returns-in-Some : goal.returns-in-Some
returns-in-Some c = known_where_read c.args.attrs.now c.attributes_at.result.0.now c.attributes_at.result.1.now c.is_empty.result c.attributes_at.ensures c.is_empty.ensures

pub returns-in-None : goal.returns-in-None
returns-in-None c =
    let attrs = c.args.attrs.now in
    ((λ t. known_attributes attrs (by_holds 38 attrs (byte_nowhere 38 attrs c.in-None.ensures)) c.requires), (λ is. refl))
