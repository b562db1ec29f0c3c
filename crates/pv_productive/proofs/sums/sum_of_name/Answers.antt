use Rattle.std.proofs.Common.{arith}
use Rattle.pv_dtd.specs.PlainForms.{plain_dtd}
use Rattle.pv_productive.specs.PlainForms.{table_of}
use Rattle.pv_productive.proofs.LeastSums.{name_sum}
use Rattle.pv_productive.proofs.sums.sum_of_name.Goals as goal

pub returns : goal.returns
returns c =
    name_sum (plain_dtd c.args.layout.now.dtd) (table_of c.args.sizes.now) c.args.name _ (let a = c.from.ensures in let b = c.content_size.ensures in omega arith)
