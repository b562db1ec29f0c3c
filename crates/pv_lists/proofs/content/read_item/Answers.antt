use Rattle.std.proofs.Common.{◌≡◌, ◌+◌, [], suc, length, arith}
use Rattle.std.proofs.lemmas.Result.{err_from_is_err_and}
use Rattle.pv_read.specs.Left.{in_content}
use Rattle.pv_read.specs.PlainItems.{plain_item}
use Rattle.pv_lists.proofs.FactsAfterItems.{known_taken}
use Rattle.pv_lists.proofs.Stack.{inner_named}
use Rattle.pv_lists.proofs.RootItems.{place_is, item_stands}
use Rattle.pv_lists.proofs.content.read_item.Goals as goal

pub item_in-requires-clause-named : goal.item_in-requires-clause-named
item_in-requires-clause-named g c =
    let room = c.requires.room in
    inner_named (g.J.ListJudge.judgement c.args.judge.now) room.root c.args.lists.now room.inner room.outer room.has_read

pub item_in-requires-clause-types : goal.item_in-requires-clause-types
item_in-requires-clause-types g c = λ k d less. (c.requires.types k d less).is_name

pub returns-in_err-item-clause-refused : goal.returns-in_err-item-clause-refused
returns-in_err-item-clause-refused g c =
    let from = err_from_is_err_and c.from_residual.result c.from_residual.ensures.1 in
    let many : c.len-open_elements.result + 1 ≡ suc (length c.args.lists.now.outer.items) = omega arith in
    rw (from.1, from.2) (λ before inner outer r.
    c.in_err-item.ensures.refused (in_content before inner outer)
    (place_is (g.J.ListJudge.judgement c.args.judge.now) c.args.root.now c.args.lists.now inner
    outer r before (c.len-open_elements.result + 1) many))

pub add-requires-clause-stands : goal.add-requires-clause-stands
add-requires-clause-stands g c =
    let room = c.requires.room in
    let many : c.len-open_elements.result + 1 ≡ suc (length c.args.lists.now.outer.items) = omega arith in
    item_stands (c.in_ok-item.ensures.taken (in_content [] room.inner room.outer)
    (place_is (g.J.ListJudge.judgement c.args.judge.now) room.root c.args.lists.now room.inner
    room.outer room.has_read [] (c.len-open_elements.result + 1) many))

pub add-requires-clause-known : goal.add-requires-clause-known
add-requires-clause-known g c =
    let room = c.requires.room in
    let many : c.len-open_elements.result + 1 ≡ suc (length c.args.lists.now.outer.items) = omega arith in
    known_taken (c.in_ok-item.ensures.taken (in_content [] room.inner room.outer)
    (place_is (g.J.ListJudge.judgement c.args.judge.now) room.root c.args.lists.now room.inner
    room.outer room.has_read [] (c.len-open_elements.result + 1) many))

pub add-requires-clause-typed : goal.add-requires-clause-typed
add-requires-clause-typed g c = c.in_ok-item.ensures.typed (g.J.ListJudge.judgement c.args.judge.now).dtd c.requires.types

pub returns-in-Ok-clause-step : goal.returns-in-Ok-clause-step
returns-in-Ok-clause-step g c = λ inner outer r.
    let many : c.len-open_elements.result + 1 ≡ suc (length c.args.lists.now.outer.items) = omega arith in
    record {
      item = plain_item c.in_ok-item.item;
      taken = λ before. c.in_ok-item.ensures.taken (in_content before inner outer)
          (place_is (g.J.ListJudge.judgement c.args.judge.now) c.args.root.now c.args.lists.now
          inner outer r before (c.len-open_elements.result + 1) many);
      is_behind = c.in-Ok.ensures.behind c.args.root.now inner outer r;
    }
