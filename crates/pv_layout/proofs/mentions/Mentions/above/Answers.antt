use Rattle.std.proofs.Common.{arith, suc, ◌+◌, ◌≡◌}
use Rattle.std.proofs.lemmas.Option.{slice_get_within}
use Rattle.pv_layout.specs.Mentions.{start_of}
use Rattle.pv_layout.proofs.MentionedColumns.{told_between}
use Rattle.pv_layout.proofs.mentions.Mentions.above.Goals as goal

pub returns-then-first-end : goal.returns-then-first-end
returns-then-first-end c = λ s t.
    let m = c.args.self.now in
    let p = t.1 in let q = t.2 in
    let z : c.args.column + 1 ≡ suc c.args.column = omega arith in
    let u : c.start.result ≡ start_of m (suc c.args.column) = rw z at c.start.ensures in
    let l = slice_get_within m.above.items t.0 s t.3 in
    told_between c.deref.result.now c.start-first.result c.min-end.result t.0 s (let a = c.start-first.ensures in omega arith) (omega arith)
    (let v = c.deref.ensures.value in rw v (omega arith)) (rw c.deref.ensures.value t.3)

pub returns-else-first-end : goal.returns-else-first-end
returns-else-first-end c = λ s t.
    let m = c.args.self.now in
    let p = t.1 in let q = t.2 in
    let z : c.args.column + 1 ≡ suc c.args.column = omega arith in
    let u : c.start.result ≡ start_of m (suc c.args.column) = rw z at c.start.ensures in
    let l = slice_get_within m.above.items t.0 s t.3 in
    absurd (let a = c.start-first.ensures in omega arith)
