use Rattle.pv_model.specs.declared.models.Token.TheVariants as token
use Rattle.pv_productive.specs.PlainForms.{dtd_of}
use Rattle.pv_missing.proofs.LiveTokens.{follows_all, follows_more, known_at}
use Rattle.pv_missing.proofs.live.live_tokens.Goals as goal

pub live_token-requires : goal.live_token-requires
live_token-requires c = known_at (dtd_of c.args.grammar.now) c.args.tokens.now c.loop-token.token-index (token.Name (record { 0 = 0 })) c.loop-token-test.true c.requires

pub loop-token-preserved : goal.loop-token-preserved
loop-token-preserved c = λ rest.
    follows_more (dtd_of c.args.grammar.now) c.args.tokens.now c.loop-token.live.items
    c.loop-token.token-index (token.Name (record { 0 = 0 })) c.live_token.result
    c.push.new.self.items rest c.loop-token-test.true
    c.in_ok-push.ensures.items c.loop-token.invariant c.live_token.ensures

pub returns : goal.returns
returns c = follows_all (dtd_of c.args.grammar.now) c.args.tokens.now c.loop-token.live.items c.loop-token.token-index c.loop-token-test.false c.loop-token.invariant
