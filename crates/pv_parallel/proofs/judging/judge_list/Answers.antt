use Rattle.std.proofs.Common.{ap, arith, length, ◌%◌, ◌+◌, ◌^◌, ◌≡◌}
use Rattle.pv_productive.specs.PlainForms.{dtd_of}
use Rattle.pv_parallel.proofs.Judgements.{judges_one}
use Rattle.pv_parallel.proofs.judging.judge_list.Goals as goal

pub returns-clause-judged : goal.returns-clause-judged
returns-clause-judged g c = λ root list kids owner one.
    judges_one (dtd_of c.args.judge.now) root (g.G.Gate.entered c.args.gate.now) c.args.first _ list c.args.verdicts.now.items c.push.new.self.items c.in_ok-verdict.verdict
    c.in_ok-push.ensures.items (c.in_ok-verdict.ensures.verdict root list kids owner one)
    (let e = c.len.ensures in let n : c.len.result ≡ length c.args.verdicts.now.items = omega
    arith in ap (λ i. (c.args.first + i) % 2 ^ 64) n) c.enter.ensures
