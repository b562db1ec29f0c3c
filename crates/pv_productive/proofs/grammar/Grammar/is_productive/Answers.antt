use Rattle.std.proofs.Common.{◌≡◌}
use Rattle.std.proofs.lemmas.Bool.{lt-ltb, ltb-true}
use Rattle.pv_productive.specs.Tables.{size_at}
use Rattle.pv_productive.proofs.NameSizes.{productive_sized, size_small}
use Rattle.pv_productive.proofs.grammar.Grammar.is_productive.Goals as goal

pub returns : goal.returns
returns c = (
  (λ e. productive_sized c.args.self.now c.args.id.0 c.size_at.result size (ltb-true c.size_at.result 4000000 e)),
  (λ p. lt-ltb c.size_at.result 4000000 (size_small c.args.self.now c.args.id.0 c.size_at.result size p)),
)
  where
    size : c.size_at.result ≡ size_at c.args.self.now.sizes.items c.args.id.0
    size = let v = c.as_slice.ensures.value in let e = c.size_at.ensures in rw v at e
