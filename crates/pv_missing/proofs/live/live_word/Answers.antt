use Rattle.pv_productive.specs.PlainForms.{dtd_of}
use Rattle.pv_tree.specs.PlainForms.{forest}
use Rattle.pv_missing.proofs.KnownNames.{word_known}
use Rattle.pv_missing.proofs.live.live_word.Goals as goal

pub live_tokens-requires : goal.live_tokens-requires
live_tokens-requires c = rw (c.as_slice.ensures, c.in_ok-tokens.ensures, c.dtd.ensures) (word_known _ (dtd_of c.args.grammar.now) (forest c.args.kids.now))
