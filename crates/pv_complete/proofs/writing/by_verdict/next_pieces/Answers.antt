use Rattle.std.proofs.Common.{None, Option, ap, length, refl, map, subst, sym, ◌∙◌, ◌≡◌}
use Rattle.std.specs.Option.{option_map}
use Rattle.std.proofs.Math.Bridge.{le_prop}
use Rattle.std.proofs.Math.Logic.{∥∥₁_elim, ∥∥₁_map}
use Rattle.std.proofs.lemmas.List.{length-map}
use Rattle.std.proofs.lemmas.Result.{IfOk-weaker}
use Rattle.pv_model.specs.PlainForms.{plain_token}
use Rattle.pv_productive.specs.PlainForms.{dtd_of}
use Rattle.pv_tree.specs.PlainForms.{forest}
use Rattle.pv_tree.specs.Words.{word_of}
use Rattle.pv_missing.specs.LiveWords.{AreProductiveTokens, IsLiveWord}
use Rattle.pv_missing.specs.PlainForms.{plain_of}
use Rattle.pv_missing.proofs.LiveFacts.{live_follows}
use Rattle.pv_write.specs.PieceForms.{plain_pieces}
use Rattle.pv_missing.specs.Widths.{FitsWeights}
use Rattle.pv_missing.specs.declared.owners.Of.{Of}
use Rattle.pv_complete.specs.ListPieces.{HasNextList}
use Rattle.pv_complete.proofs.PiecesByVerdict.{kept_pieces, possible_pieces}
use Rattle.pv_complete.proofs.OwnerSites.{owner_site}
use Rattle.pv_complete.proofs.LightLists.{has_owner, next_light}
use Rattle.pv_complete.proofs.writing.by_verdict.next_pieces.Goals as goal

pub unreachable-requires : goal.unreachable-requires
unreachable-requires c =
    let d = dtd_of c.args.layout.now.grammar.now in
    let none : c.args.owner ≡ None = cc in
    ∥∥₁_elim c.requires.next (λ x. absurd x)
    (λ next. has_owner d c.args.verdicts.now.verdicts (forest c.args.kids.now) c.args.used.now
    (subst (λ (o : Option Of). HasNextList d o (forest c.args.kids.now) c.args.verdicts.now.verdicts
    c.args.used.now) none next) c.requires.possible)

pub invariant_of-least_pieces : goal.invariant_of-least_pieces
invariant_of-least_pieces c =
    let d = dtd_of c.args.layout.now.grammar.now in
    record {
      has = ∥∥₁_map c.requires.next (λ next.
          owner_site d next.root next.list.owner (plain_of c.in-Some.of)
          (next.is_owner ∙ ap (λ o. option_map plain_of o) c.in-Some.is));
    }

pub least_pieces-requires-clause-fits : goal.least_pieces-requires-clause-fits
least_pieces-requires-clause-fits c =
    let d = dtd_of c.args.layout.now.grammar.now in
    let w = word_of d (forest c.args.kids.now) in
    let live = map plain_token c.in_ok-live.live in
    let n : length c.as_slice.result.now ≡ length live = rw c.as_slice.ensures (simp length-map) in
    let same = n ∙ (live_follows d w live c.in_ok-live.ensures).same_length in
    subst (FitsWeights d) (sym same)
    (∥∥₁_elim c.requires.next le_prop
    (λ next. (next_light d c.args.verdicts.now.verdicts (forest c.args.kids.now) c.args.used.now
    c.args.owner c.next_is_possible-possible.new.used (plain_of c.in-Some.of) live next
    c.if-possible.ensures (rw c.in-Some.is refl) c.in_ok-live.ensures).0))

pub least_pieces-requires-clause-light : goal.least_pieces-requires-clause-light
least_pieces-requires-clause-light c =
    let d = dtd_of c.args.layout.now.grammar.now in
    let live = map plain_token c.in_ok-live.live in
    rw c.as_slice.ensures
    (λ k w. ∥∥₁_elim c.requires.next le_prop
    (λ next. (next_light d c.args.verdicts.now.verdicts (forest c.args.kids.now) c.args.used.now
    c.args.owner c.next_is_possible-possible.new.used (plain_of c.in-Some.of) live next
    c.if-possible.ensures (rw c.in-Some.is refl) c.in_ok-live.ensures).1 k w))

pub least_pieces-requires-clause-productive : goal.least_pieces-requires-clause-productive
least_pieces-requires-clause-productive c =
    let d = dtd_of c.args.layout.now.grammar.now in
    subst (λ v. AreProductiveTokens d (map plain_token v)) (sym c.as_slice.ensures)
    (live_follows d (word_of d (forest c.args.kids.now)) (map plain_token c.in_ok-live.live)
    c.in_ok-live.ensures).names

pub returns-then-possible : goal.returns-then-possible
returns-then-possible c =
    let d = dtd_of c.args.layout.now.grammar.now in
    let live = map plain_token c.as_slice.result.now in
    let is : IsLiveWord d (word_of d (forest c.args.kids.now)) live = rw c.as_slice.ensures
    c.in_ok-live.ensures in
    IfOk-weaker c.least_pieces.result _ _
    (λ pieces f root list more kids owner are.
    possible_pieces d root list more c.args.verdicts.now.verdicts c.args.used.now
    c.next_is_possible-possible.new.used (plain_of c.in-Some.of) f.0 live
    (plain_pieces pieces.items)
    c.if-possible.ensures (rw c.in-Some.is at owner) (rw kids is) f.1 f.2 are)
    c.least_pieces.ensures

pub returns : goal.returns
returns c = λ root list more kids owner are.
    kept_pieces (dtd_of c.args.layout.now.grammar.now) root list more c.args.verdicts.now.verdicts
    c.args.used.now c.next_is_possible-possible.new.used (plain_of c.in-Some.of)
    (plain_pieces c.new.result.items) c.if-possible.ensures c.requires.possible
    (rw c.in-Some.is at owner) (rw c.new.ensures.items refl) are
