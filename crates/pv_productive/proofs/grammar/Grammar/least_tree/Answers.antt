use Rattle.std.proofs.Common.{arith, ◌∙◌, ◌≡◌}
use Rattle.pv_productive.specs.Tables.{size_at}
use Rattle.pv_productive.proofs.NameSizes.{cut_size, size_small}
use Rattle.pv_productive.proofs.grammar.Grammar.least_tree.Goals as goal

pub returns-then-size-lt-NO_SIZE : goal.returns-then-size-lt-NO_SIZE
returns-then-size-lt-NO_SIZE c =
    let v = c.as_slice.ensures.value in let e = c.size_at-size.ensures in
    let s : c.size_at-size.result ≡ size_at c.args.self.now.sizes.items c.args.id.0 = rw v at e in
    cut_size c.args.self.now c.args.id.0 c.from.result (c.from.ensures ∙ s) (let l = c.if-size-lt-NO_SIZE.true in let z = c.from.ensures in omega arith)

pub returns-else-size-lt-NO_SIZE : goal.returns-else-size-lt-NO_SIZE
returns-else-size-lt-NO_SIZE c = λ p.
    let v = c.as_slice.ensures.value in let e = c.size_at-size.ensures in
    let s : c.size_at-size.result ≡ size_at c.args.self.now.sizes.items c.args.id.0 = rw v at e in
    let l = size_small c.args.self.now c.args.id.0 c.size_at-size.result s p in let f = c.if-size-lt-NO_SIZE.false in absurd (omega arith)
