use Rattle.std.proofs.Common.{refl}
use Rattle.pv_chars.proofs.DelimiterPlaces.{byte_nowhere}
use Rattle.pv_read.proofs.AbsentBytes.{by_holds}
use Rattle.pv_read.proofs.KnownLemmas.{known_text, known_data}
use Rattle.pv_read.proofs.forms.known.is_known_data.Goals as goal

pub returns-in-Some : goal.returns-in-Some
returns-in-Some c = ((λ t. known_data c.args.bytes.now (c.are_pieces.ensures.0 t) c.requires), (λ is. c.are_pieces.ensures.1 is.are_pieces))

pub returns-in-None : goal.returns-in-None
returns-in-None c =
    let bytes = c.args.bytes.now in
    ((λ t. known_data bytes (known_text bytes (by_holds 38 bytes (byte_nowhere 38 bytes c.in-None.ensures)) c.requires.are_pieces) c.requires), (λ is. refl))
