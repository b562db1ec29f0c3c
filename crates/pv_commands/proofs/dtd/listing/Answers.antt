use Rattle.std.proofs.Common.{subst}
use Rattle.pv_dtd.specs.Plain.{PlainDtd}
use Rattle.pv_commands.specs.Dtd.{TellsDtd}
use Rattle.pv_opening.specs.Returns.{TellsBy}
use Rattle.pv_commands.proofs.dtd.listing.Goals as goal

pub returns : goal.returns
returns c =
    subst (λ (d : PlainDtd). TellsBy (TellsDtd d) c.tell.result) c.in_ok-grammar.ensures
    c.tell.ensures
