use Rattle.std.proofs.Common.{map, sym, true≢false, ◌∙◌}
use Rattle.pv_model.specs.PlainForms.{plain_token}
use Rattle.pv_dtd.proofs.ProperDtds.{proper}
use Rattle.pv_productive.specs.PlainForms.{dtd_of}
use Rattle.pv_missing.specs.PlainForms.{plain_of}
use Rattle.pv_missing.proofs.LiveFacts.{live_follows}
use Rattle.pv_span.proofs.ListVerdicts.{impossible_judged}
use Rattle.pv_span.proofs.KnownSites.{possible_site}
use Rattle.pv_span.proofs.verdict.judge.Goals as goal

pub is_possible-requires-clause-productive : goal.is_possible-requires-clause-productive
is_possible-requires-clause-productive c =
    (live_follows (dtd_of c.args.grammar.now) (map plain_token c.args.word.now) (map plain_token c.args.live.now) c.requires.live).names

pub returns-then-not-is_known_owner : goal.returns-then-not-is_known_owner
returns-then-not-is_known_owner c =
    let g = dtd_of c.args.grammar.now in let live = map plain_token c.args.live.now in
    impossible_judged g (map plain_token c.args.word.now) live (plain_of c.args.of) c.args.is_bare c.requires.live
    (λ p. true≢false (sym (c.is_known_owner.ensures.1 (possible_site g (proper c.args.grammar.now.layout.dtd).named live (plain_of c.args.of) p)) ∙ c.if-not-is_known_owner.true))

pub returns-then-not-branch : goal.returns-then-not-branch
returns-then-not-branch c =
    impossible_judged (dtd_of c.args.grammar.now) (map plain_token c.args.word.now) (map plain_token c.args.live.now) (plain_of c.args.of) c.args.is_bare c.requires.live
    (λ p. true≢false (sym (c.in_ok-is_possible.ensures.1 p) ∙ c.if-not-branch.true))
