use Rattle.std.proofs.Common.{arith, length, refl}
use Rattle.std.proofs.lemmas.Option.{slice_get_within}
use Rattle.pv_rules.specs.Sites.{content_site}
use Rattle.pv_productive.specs.PlainForms.{dtd_of}
use Rattle.pv_denial.proofs.MostOfNames.{names_by_most}
use Rattle.pv_denial.proofs.rules.names_hold.Goals as goal

pub returns : goal.returns
returns c = (
  (λ t. names_by_most (dtd_of c.args.grammar.now) (length c.args.word.now) c.args.barrier.now c.requires.rows c.args.most.now c.requires.most (content_site c.args.id.0)
      (λ i m e. c.loop-place.invariant i m (let n = slice_get_within c.args.most.now i m e in let a = c.loop-place-test.false in omega arith) e)),
  (λ h. refl),
)
