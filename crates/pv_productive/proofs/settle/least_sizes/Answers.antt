use Rattle.std.proofs.Common.{subst, sym}
use Rattle.pv_dtd.specs.PlainForms.{plain_dtd}
use Rattle.pv_productive.specs.Tables.{IsSettled}
use Rattle.pv_productive.specs.PlainForms.{table_of}
use Rattle.pv_dtd.proofs.ProperDtds.{proper}
use Rattle.pv_productive.proofs.SettledSizes.{sizes}
use Rattle.pv_productive.proofs.settle.least_sizes.Goals as goal

pub returns : goal.returns
returns c =
    let r = c.lower_all.ensures in
    sizes (plain_dtd c.args.layout.now.dtd) (proper c.args.layout.now.dtd)
    (table_of c.lower_all.new.sizes) r.attained
    (subst (IsSettled (plain_dtd c.args.layout.now.dtd)) (sym (r.same c.loop-test.false))
    (r.settled c.loop-test.false))
