-- What an offer told is kept when it is tried.
use Rattle.std.proofs.Common.{◌≡◌, ◌∙◌, Contains, IsTrue, List, Some, ap, subst, sym, ℕ}
use Rattle.pv_edit.specs.GivenNames.{is_new_name}
use Rattle.pv_edit.specs.declared.answers.EditAnswer.{EditAnswer}
use Rattle.pv_edit.specs.declared.answers.EditAnswer.TheVariants as refusal
use Rattle.pv_edit.specs.declared.asks.Ask.{Ask}
use Rattle.pv_offer.specs.Laws.{OffersExactly, TriedAsOffered}
use Rattle.pv_offer.specs.Offers.{AreOffered, CanBeAsked, declared_names, edit_with}
use Rattle.pv_offer.specs.declared.errors.OfferError.{OfferError}
use Rattle.pv_offer.specs.declared.errors.OfferError.TheVariants as ground
use Rattle.pv_script.specs.Commands.{SpellsCommand}
use Rattle.pv_script.specs.Laws.{OneCommand}
use Rattle.pv_script.specs.declared.commands.Command.{Command}
use Rattle.pv_script.specs.declared.commands.Command.TheVariants as command
use Rattle.pv_script.specs.declared.replies.Reply.{Reply}
use Rattle.pv_script.specs.declared.replies.Reply.TheVariants as reply
use Rattle.pv_session.specs.Sessions.{PlainSession, stamped_document}
use Rattle.pv_session.specs.Steps.{IsEditStep, PlainAnswer, accepted, is_impossible, refusal_of, refused}
use Rattle.pv_conversation.specs.Laws.{IsKeptFor, OffersAreKept}
use Rattle.pv_conversation.specs.Offers.{TellsOffer, is_not_offered, is_offered, offer_refused}
use Rattle.pv_conversation.specs.Session.{RepliesBy, RepliesTo, known, reply_to, unknown}

-- what a line that spells a command is answered
by_command : OneCommand → (session : PlainSession) (line : List ℕ) (c : Command) (told : Reply)
    (after : PlainSession) → SpellsCommand line c → RepliesTo session line told after →
    RepliesBy session c told after
by_command one session line c told after spells (unknown none is stays) = absurd (none c spells)
by_command one session line c told after spells (known other reads by) = subst (λ (d : Command). RepliesBy session d told after) (one line other c reads spells) by

-- what names that are told show
record AreTold (s : PlainSession) (ask : Ask) (names : List (List ℕ)) : Type 0 where
  can : CanBeAsked (stamped_document s) ask
  are : AreOffered (stamped_document s) ask names

no_names : (why : OfferError) (names : List (List ℕ)) → offer_refused why ≡ Some (reply.Offer names) → ⊥
no_names (ground.Shape reason) names is = cc
no_names ground.Limit names is = cc
no_names ground.NoMemory names is = cc

same_names : (names others : List (List ℕ)) → reply.Offer names ≡ reply.Offer others → others ≡ names
same_names names others is = cc

told_names : (s : PlainSession) (ask : Ask) (names : List (List ℕ)) → TellsOffer s ask (reply.Offer names) → AreTold s ask names
told_names s ask names (is_offered others can are is) = record { can = can; are = subst (AreOffered (stamped_document s) ask) (same_names names others is) are }
told_names s ask names (is_not_offered why h is) = absurd (no_names why names is)

some_answer : (why : EditAnswer) (answer : PlainAnswer) → refusal_of why ≡ Some answer → why ≡ refusal.NoMemory → ⊥
some_answer why answer is none = let never = sym (ap refusal_of none) ∙ is in cc

one_answer : (answer other : PlainAnswer) → Some answer ≡ Some other → other ≡ answer
one_answer answer other is = cc

module _ (exactly : OffersExactly) (tried : TriedAsOffered) (s : PlainSession) (ask : Ask)
    (names : List (List ℕ)) (x : List ℕ) (told_of : AreTold s ask names) (is_declared : Contains
    (declared_names s.dtd) x)
    (named : IsTrue (is_new_name x)) (told : Reply) (answer : PlainAnswer) (is : told ≡ reply_to answer) where
  kept_by : (after : PlainSession) → IsEditStep s (edit_with ask x) answer after → IsKeptFor names x told
  kept_by after (accepted edited left bad may behind has_open has_bad at) = record {
    made = λ h. (_, is ∙ ap reply_to at);
    refused = λ none. absurd ((exactly (stamped_document s) ask names x told_of.are).1 is_declared none (edited, may));
  }
  kept_by after (refused why h at stays) =
      let shown = tried (stamped_document s) ask x why told_of.can named h (some_answer why answer at) in
      let says : refusal_of why ≡ Some (is_impossible shown.1.0) = ap refusal_of shown.1.1 in
      record {
        made = λ k. absurd (shown.0 ((exactly (stamped_document s) ask names x told_of.are).0 k));
        refused = λ none. (shown.1.0, is ∙ ap reply_to (one_answer (is_impossible shown.1.0) answer (sym says ∙ at)));
      }

pub offers_are_kept : OneCommand → OffersExactly → TriedAsOffered → OffersAreKept
offers_are_kept one exactly tried session behind after line next ask names x told asks answered is_declared named tries replied =
    let by = by_command one session line (command.Offer ask) (reply.Offer names) behind asks answered in
    let stays = subst (λ (s : PlainSession). RepliesTo s next told after) by.1 replied in
    let edit = by_command one session next (command.Edit (edit_with ask x)) told after tries stays in
    kept_by exactly tried session ask names x (told_names session ask names by.0) is_declared named told edit.0 edit.2 after edit.1
