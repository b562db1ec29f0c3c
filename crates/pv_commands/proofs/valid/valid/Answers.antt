use Rattle.pv_dtd.specs.PlainForms.{plain_dtd}
use Rattle.pv_commands.proofs.Validities.{told_found}
use Rattle.pv_commands.proofs.valid.valid.Goals as goal

pub returns : goal.returns
returns c =
    let fetched = c.args.fetched.now in
    told_found c.args.root.now (plain_dtd fetched.dtd) fetched.bytes.items c.tell.result
    (rw c.deref.ensures.value at c.tell.ensures)
