use Rattle.std.proofs.Common.{[], inr, refl, subst, sym, ◌∷◌, ◌≡◌}
use Rattle.pv_dtd.specs.PlainForms.{plain_dtd}
use Rattle.pv_productive.specs.PlainForms.{dtd_of}
use Rattle.pv_tree.specs.Lists.{IsFirstNot, lists_of}
use Rattle.pv_tree.specs.PlainDocs.{plain_doc}
use Rattle.pv_tree.specs.ListWalks.{path_come_to}
use Rattle.pv_tree.specs.Walks.{list_given}
use Rattle.pv_fresh.proofs.Lists.{come_to, come_to_none, left_by}
use Rattle.pv_missing.specs.Verdicts.{AreVerdicts}
use Rattle.pv_complete.specs.Loads.{AddsUp, StopsAtList}
use Rattle.pv_complete.specs.NeededElements.{CanWeigh}
use Rattle.pv_complete.specs.PlainForms.{load_of}
use Rattle.pv_complete.proofs.WeightSums.{adds_nothing, adds_on, stops_before, stops_behind, stops_in, weighs_in}
use Rattle.pv_complete.proofs.missing.needing.total_weight.Goals as goal

pub loop-lists-init : goal.loop-lists-init
loop-lists-init c = record {
  known = c.requires;
  adds = λ last f. rw c.of-lists.ensures.lists at f;
  stops = λ path f. rw c.of-lists.ensures.lists at f;
}

pub loop-lists-preserved : goal.loop-lists-preserved
loop-lists-preserved c =
    let d = dtd_of c.args.layout.now.grammar.now in
    let root = c.args.root.now in
    let vs = c.args.verdicts.now.verdicts in
    let list = list_given (path_come_to c.next.new.self) c.in-Some-2.list in
    let rest = left_by c.next.new.self in
    let old = load_of c.loop-lists.load in
    let new = load_of c.weigh_list.new.load in
    let left = come_to c.loop-lists.lists c.next.new.self _ c.in-Some-2.list c.in-Some-2.is c.in_ok-list.ensures.given in
    let one : AddsUp d root (list ∷ []) vs old new = c.in-Ok.ensures.weighed root list refl (c.owner_under-owner.ensures list refl) in
    record {
      known = c.weigh_list.ensures.known;
      adds = λ last f. c.loop-lists.invariant.adds last (rw left (adds_on d root vs (list ∷ []) rest old new last one f));
      stops = λ path f. c.loop-lists.invariant.stops path (rw left (stops_behind d root vs (list ∷ []) rest old new path one f));
    }

pub returns-in-Err-TooWide-clause-refused : goal.returns-in-Err-TooWide-clause-refused
returns-in-Err-TooWide-clause-refused c = λ live.
    let d = dtd_of c.args.layout.now.grammar.now in
    let root = c.args.root.now in
    let vs = c.args.verdicts.now.verdicts in
    let path = path_come_to c.next.new.self in
    let list = list_given path c.in-Some-2.list in
    let rest = left_by c.next.new.self in
    let old = load_of c.loop-lists.load in
    let left = come_to c.loop-lists.lists c.next.new.self _ c.in-Some-2.list c.in-Some-2.is c.in_ok-list.ensures.given in
    let here : StopsAtList d root (list ∷ []) vs old path = c.in-Err-TooWide.ensures.wide c.in-Err-TooWide.field-0-is root list refl (c.owner_under-owner.ensures list refl) in
    inr (record {
      narrow = live.narrow;
      possible = live.possible;
      first = rw c.in_ok-path-in-Err-TooWide.ensures
          (stops_in d root (lists_of (plain_doc c.args.doc.now)) vs (load_of c.new-load.result) path
          c.new-load.ensures.used live.verdicts
          (c.loop-lists.invariant.stops path (rw left (stops_before d root vs (list ∷ []) rest old path here))));
    })

pub returns-clause-total : goal.returns-clause-total
returns-clause-total c = λ live.
    let d = dtd_of c.args.layout.now.grammar.now in
    let root = c.args.root.now in
    let vs = c.args.verdicts.now.verdicts in
    let last = load_of c.loop-lists.load in
    let none = come_to_none c.loop-lists.lists c.next.new.self _ c.in_default-2.is c.in_ok-list.ensures.given in
    weighs_in d root c.possible_weights_law.ensures (plain_doc c.args.doc.now) vs (load_of c.new-load.result) last
    (rw c.dtd.ensures at c.proper_dtd_law.ensures) c.proper_doc_law.ensures live.verdicts live.possible live.narrow c.new-load.ensures.used c.new-load.ensures.total
    (c.loop-lists.invariant.adds last (rw none (adds_nothing d root vs last c.loop-lists.load.bounded)))

pub returns-in-Some-clause-refused : goal.returns-in-Some-clause-refused
returns-in-Some-clause-refused c = λ live.
    let root = c.args.root.now in
    let lists = lists_of (plain_doc c.args.doc.now) in
    let same : plain_dtd c.dtd-2.result.now ≡ dtd_of c.args.layout.now.grammar.now = c.dtd-2.ensures in
    let are : AreVerdicts (plain_dtd c.dtd-2.result.now) root lists c.args.verdicts.now.verdicts = subst (λ g. AreVerdicts g root lists c.args.verdicts.now.verdicts) (sym same) live.verdicts in
    let told : IsFirstNot (CanWeigh (plain_dtd c.dtd-2.result.now) root) lists c.in-Some.path = rw c.in-Some.is at (c.in_ok-path.ensures root are) in
    inr (record { narrow = live.narrow; possible = live.possible; first = subst (λ g. IsFirstNot (CanWeigh g root) lists c.in-Some.path) same told })
