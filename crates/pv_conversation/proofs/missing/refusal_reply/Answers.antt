use Rattle.std.proofs.Common.{refl}
use Rattle.std.proofs.Math.Logic.{∥∥₁_elim}
use Rattle.pv_conversation.specs.MissingReplies.{is_impossible, is_wide}
use Rattle.pv_conversation.proofs.MissingElements.{impossible_told, wide_for_weights}
use Rattle.pv_conversation.proofs.missing.refusal_reply.Goals as goal

pub returns-in-Impossible-clause-withholds : goal.returns-in-Impossible-clause-withholds
returns-in-Impossible-clause-withholds c =
    let told = impossible_told c.args.session.now c.session_law.ensures
    (rw (c.dtd.ensures, c.grammar.ensures) at c.proper_dtd_law.ensures) c.in-Impossible.path
    (rw c.in-Impossible.is at c.requires) in
    is_impossible c.in-Impossible.path told refl

pub returns-in-TooWide-clause-withholds : goal.returns-in-TooWide-clause-withholds
returns-in-TooWide-clause-withholds c =
    let session = c.args.session.now in
    is_wide c.in-TooWide.path (wide_for_weights session _ c.session_law.ensures (rw c.in-TooWide.is at c.requires)) refl

pub unreachable-requires : goal.unreachable-requires
unreachable-requires c = ∥∥₁_elim (rw c.in-TooMany.is at c.requires) (λ x. absurd x) (λ none. none)
