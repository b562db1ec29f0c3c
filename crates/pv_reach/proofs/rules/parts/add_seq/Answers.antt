use Rattle.std.proofs.Common.{None, List, ℕ, subst}
use Rattle.pv_productive.specs.PlainForms.{dtd_of}
use Rattle.pv_reach.specs.AddedRules.{AddsRule}
use Rattle.pv_reach.proofs.PartRules.{seq_laid}
use Rattle.pv_reach.proofs.rules.parts.add_seq.Goals as goal

pub returns : goal.returns
returns c =
    let s = c.requires.seq in
    let P : List ℕ → Type 0 = λ v. AddsRule c.args.rules.now.items c.add.new.rules.items c.part_column.result None v in
    seq_laid (dtd_of c.args.grammar.now) c.args.number c.part_column.result c.part_column.ensures c.args.rules.now.items c.add.new.rules.items s.0 c.in_ok-columns.columns.items s.1
    (c.in_ok-columns.ensures s.0 s.1) (subst P c.deref.ensures.value c.in_ok-add.ensures)
