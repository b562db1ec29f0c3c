use Rattle.std.proofs.Common.{refl}
use Rattle.pv_productive.specs.PlainForms.{dtd_of}
use Rattle.pv_tree.specs.Marks.{blank_mark}
use Rattle.pv_read.proofs.Agreement.{spelled_where_meant}
use Rattle.pv_commands.specs.Check.{IsCheckCourse}
use Rattle.pv_opening.specs.Documents.{PlainOpened, document_stage}
use Rattle.pv_commands.proofs.CommandCounts.{judged_document}
use Rattle.pv_opening.proofs.Stages.{found_behind}
use Rattle.pv_commands.proofs.check.check_planned.Goals as goal

pub returns-in-Ok-clause-finds : goal.returns-in-Ok-clause-finds
returns-in-Ok-clause-finds g c =
    let root = c.args.root.now in
    let d = dtd_of c.args.judge.now in
    let bytes = c.args.bytes.now in
    let read = c.in-Ok.ensures.read in
    let opened : PlainOpened = record { dtd = d; bytes = bytes; doc = read.0 } in
    let is_text = (spelled_where_meant blank_mark root bytes read.0 read.1).0 in
    found_behind (document_stage root d bytes) (IsCheckCourse root) opened c.respond_told.result
    (record { is_dtd = refl; are_bytes = refl; is_text = is_text }, refl)
    (c.respond_told.ensures.tells root opened (c.in-Ok.ensures.tells read.0 read.1))

pub returns-in-Ok-clause-checks : goal.returns-in-Ok-clause-checks
returns-in-Ok-clause-checks g c =
    let root = c.args.root.now in
    let d = dtd_of c.args.judge.now in
    let bytes = c.args.bytes.now in
    let read = c.in-Ok.ensures.read in
    let opened : PlainOpened = record { dtd = d; bytes = bytes; doc = read.0 } in
    let is_text = (spelled_where_meant blank_mark root bytes read.0 read.1).0 in
    judged_document root d d bytes opened _ _ _
    (record { is_dtd = refl; are_bytes = refl; is_text = is_text }, refl) refl
    (c.respond_told.ensures.counts root opened _ _ (c.in-Ok.ensures.tells read.0 read.1)
    (c.in-Ok.ensures.counts read.0 read.1))

pub returns-in-Err-clause-checks : goal.returns-in-Err-clause-checks
returns-in-Err-clause-checks g c = rw c.in-Err.ensures.uncounted at c.check_again.ensures.checks
