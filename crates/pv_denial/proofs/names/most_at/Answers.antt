use Rattle.std.proofs.Common.{ap, arith, inl, inr, ◌∙◌}
use Rattle.pv_dtd.specs.Plain.{PlainDtd, declared}
use Rattle.pv_productive.specs.PlainForms.{dtd_of}
use Rattle.pv_denial.proofs.MostOfNames.{most_all, most_more, most_none}
use Rattle.pv_denial.proofs.names.most_at.Goals as goal
use Rattle.pv_denial.proofs.names.most_at.Goals.{else-most-past, then-most-past}

pub loop-name-init : goal.loop-name-init
loop-name-init c = most_none c.args.barrier.now c.args.place

pub loop-name-preserved : goal.loop-name-preserved
loop-name-preserved c =
    let l = c.loop-name in
    elim c.if-most-past.branch [
      | then-most-past w ↦ most_more c.args.barrier.now c.args.place l.name l.most
          c.past_at-past.result c.if-most-past.most l.invariant c.past_at-past.ensures (omega arith)
          (omega arith) (inr w.most-is)
      | else-most-past w ↦ most_more c.args.barrier.now c.args.place l.name l.most
          c.past_at-past.result c.if-most-past.most l.invariant c.past_at-past.ensures (omega arith)
          (omega arith) (inl w.most-is)
    ]

pub returns : goal.returns
returns c =
    let e = c.count-name-end.ensures ∙ ap (λ (d : PlainDtd). declared d) c.dtd.ensures in
    most_all (dtd_of c.args.grammar.now) c.args.barrier.now c.args.place c.loop-name.name
    c.loop-name.most (let a = c.loop-name-test.false in let b = c.loop-name.auto.name-end in
    omega arith) c.loop-name.invariant
