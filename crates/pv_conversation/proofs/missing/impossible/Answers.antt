use Rattle.std.proofs.Common.{Some, ap, sym, ◌∙◌, ◌≡◌}
use Rattle.std.specs.Option.{option_copied}
use Rattle.pv_script.specs.declared.replies.Reply.TheVariants as reply
use Rattle.pv_conversation.specs.MissingReplies.{is_impossible}
use Rattle.pv_conversation.proofs.MissingElements.{told_impossible}
use Rattle.pv_conversation.proofs.missing.impossible.Goals as goal

pub returns-in-None-clause-withholds : goal.returns-in-None-clause-withholds
returns-in-None-clause-withholds c = sym c.first_impossible.ensures ∙ ap option_copied c.in-None.is

pub returns-in_ok-new-in-Some-clause-withholds : goal.returns-in_ok-new-in-Some-clause-withholds
returns-in_ok-new-in-Some-clause-withholds c =
    let path = c.in-Some.path.now in
    let first : c.args.verdicts.now.first ≡ Some path = sym c.first_impossible.ensures ∙ ap option_copied c.in-Some.is in
    let told = told_impossible c.args.session.now c.session_law.ensures (rw (c.dtd.ensures, c.grammar.ensures) at c.proper_dtd_law.ensures) c.args.verdicts.now path first c.requires in
    is_impossible path told (ap reply.Impossible (c.in_ok-new-in-Some.ensures ∙ c.places.ensures))
