use Rattle.std.proofs.Common.{map, subst, sym}
use Rattle.pv_model.specs.PlainForms.{plain_token}
use Rattle.pv_productive.specs.PlainForms.{dtd_of}
use Rattle.pv_tree.specs.PlainForms.{forest}
use Rattle.pv_tree.specs.Words.{word_of}
use Rattle.pv_missing.specs.LiveWords.{AreProductiveTokens}
use Rattle.pv_missing.proofs.LiveFacts.{live_follows}
use Rattle.test_lists.proofs.need.spans.is_member.Goals as goal

pub member-requires : goal.member-requires
member-requires g c =
    let d = dtd_of c.args.grammar.now in
    record {
      productive =
          subst (λ v. AreProductiveTokens d (map plain_token v)) (sym c.as_slice.ensures)
          (live_follows d (word_of d (forest c.args.kids.now)) (map plain_token c.in_ok-live.live) c.in_ok-live.ensures).names;
    }
