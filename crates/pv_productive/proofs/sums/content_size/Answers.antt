use Rattle.std.proofs.Common.{refl, sym, ◌∙◌}
use Rattle.pv_dtd.specs.PlainForms.{plain_dtd}
use Rattle.pv_productive.specs.PlainForms.{table_of}
use Rattle.pv_rules.proofs.FlatContents.{no_content}
use Rattle.pv_productive.proofs.LeastSums.{children_content, free_content}
use Rattle.pv_productive.proofs.sums.content_size.Goals as goal

pub returns-in_default : goal.returns-in_default
returns-in_default c =
    let n = no_content (plain_dtd c.args.layout.now.dtd) c.args.name (sym c.in_default.ensures) in rw n refl

pub returns-in-Empty : goal.returns-in-Empty
returns-in-Empty c =
    sym (free_content (plain_dtd c.args.layout.now.dtd) (table_of c.args.sizes.now) c.args.name c.in-Some.content
    (sym c.in-Some.ensures) (rw c.in-Empty.is tt))

pub returns-in-Any : goal.returns-in-Any
returns-in-Any c =
    sym (free_content (plain_dtd c.args.layout.now.dtd) (table_of c.args.sizes.now) c.args.name c.in-Some.content
    (sym c.in-Some.ensures) (rw c.in-Any.is tt))

pub returns-in-Mixed : goal.returns-in-Mixed
returns-in-Mixed c =
    sym (free_content (plain_dtd c.args.layout.now.dtd) (table_of c.args.sizes.now) c.args.name c.in-Some.content
    (sym c.in-Some.ensures) (rw c.in-Mixed.is tt))

pub returns-in-Children : goal.returns-in-Children
returns-in-Children c =
    c.of_part.ensures ∙ sym (children_content (plain_dtd c.args.layout.now.dtd) (table_of c.args.sizes.now) c.args.name
    c.in-Some.content (sym c.in-Some.ensures) c.in-Children.is)
