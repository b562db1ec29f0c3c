use Rattle.std.proofs.Common.{arith, get_or, sym, ◌≡◌}
use Rattle.std.proofs.lemmas.List.{get_or_default}
use Rattle.pv_table_check.proofs.ClosedSites.{no_entry}
use Rattle.pv_table_check.proofs.LeastValues.{all_told, put, told}
use Rattle.pv_table_check.proofs.least.put_others.Goals as goal
use Rattle.pv_table_check.proofs.least.put_others.Goals.{then-not-is_no_more_at+in_ok-push, else-not-is_no_more_at}

pub loop-entry-init : goal.loop-entry-init
loop-entry-init c = record { are = c.requires; least = λ k d lt. absurd (omega arith) }

pub loop-entry-preserved : goal.loop-entry-preserved
loop-entry-preserved c =
    let es = c.args.entries.now in
    let n = c.loop-entry.entry-index in
    let e = get_or es n no_entry in
    let lt = c.loop-entry-test.true in
    let is : e ≡ get_or es n e = sym (get_or_default es n e no_entry lt) in
    elim c.if-not-is_no_more_at.branch [
      | then-not-is_no_more_at+in_ok-push w ↦ rw (w.found-is, w.in_ok-push.ensures.items) (put es n c.loop-entry.found.items c.loop-entry.invariant e is lt)
      | else-not-is_no_more_at w ↦ rw w.found-is (told es n c.loop-entry.found.items
          c.loop-entry.invariant e is lt (rw c.as_slice.ensures.value at
          (c.is_no_more_at.ensures w.if-not-is_no_more_at.false)))
    ]

pub returns : goal.returns
returns c = all_told c.args.entries.now c.loop-entry.entry-index c.loop-entry.found.items c.loop-entry.invariant (let z = c.loop-entry-test.false in omega arith)
