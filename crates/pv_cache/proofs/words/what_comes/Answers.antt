use Rattle.pv_edit.proofs.FilledKids.{inner_is}
use Rattle.pv_tree.specs.PlainForms.{plain_all}
use Rattle.pv_cache.proofs.JoinedWords.{around-comes, named-comes}
use Rattle.pv_cache.proofs.words.what_comes.Goals as goal

pub returns-in-Around : goal.returns-in-Around
returns-in-Around c =
    rw c.as_slice-in-Around.ensures
    (around-comes c.args.filling.now (plain_all c.args.old.now) c.in-Around.name c.in-Around.attrs
    c.in-Around.end c.in-Around.is)

pub returns-in-Named : goal.returns-in-Named
returns-in-Named c =
    rw c.as_slice-in-Named.ensures
    (named-comes c.args.filling.now (plain_all c.args.old.now) c.in-Named.name c.in-Named.is
    (rw c.in-Named.is at c.requires))

pub returns-in-Inner : goal.returns-in-Inner
returns-in-Inner c =
    let o = c.kids_of_only.ensures in
    inner_is c.args.filling.now (plain_all c.args.old.now) o.0 o.1 o.2 c.kids_of_only.result.now o.3
    c.in-Inner.is o.4
