use Rattle.std.proofs.Common.{map, sym, true≢false, ◌∙◌}
use Rattle.pv_model.specs.PlainForms.{plain_token}
use Rattle.pv_dtd.proofs.ProperDtds.{proper}
use Rattle.pv_productive.specs.PlainForms.{dtd_of}
use Rattle.pv_missing.specs.PlainForms.{plain_of}
use Rattle.pv_span.proofs.KnownSites.{possible_site}
use Rattle.pv_span.proofs.fixed.member.Goals as goal

pub returns-then-not-is_known_owner-clause-possible : goal.returns-then-not-is_known_owner-clause-possible
returns-then-not-is_known_owner-clause-possible g c = (
  (λ e. absurd cc),
  (λ p. absurd (true≢false
      (sym (c.is_known_owner.ensures.1 (possible_site (dtd_of c.args.grammar.now)
      (proper c.args.grammar.now.layout.dtd).named (map plain_token c.args.word.now) (plain_of c.args.of) p))
      ∙ c.if-not-is_known_owner.true))),
)
