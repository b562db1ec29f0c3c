use Rattle.std.proofs.Common.{◌≡◌, ◌++◌, ◌∙◌, ap, codes, decimal}
use Rattle.pv_dtd.specs.PlainForms.{plain_dtd}
use Rattle.pv_words.specs.Paths.{path_text}
use Rattle.pv_tree.specs.PlainDocs.{plain_doc}
use Rattle.pv_opening.specs.Response.{with_line}
use Rattle.pv_commands.specs.Verify.{TellsOfPack, is_accepted, is_rejected, names_wide}
use Rattle.pv_opening.specs.declared.status.Status.TheVariants.{Done, Limit, Negative}
use Rattle.pv_opening.proofs.Stages.{stops_as}
use Rattle.pv_commands.proofs.verify.tell.Goals as goal

pub returns-in_ok-with_number-in-Ok-Accepted : goal.returns-in_ok-with_number-in-Ok-Accepted
returns-in_ok-with_number-in-Ok-Accepted c = λ bytes means.
    let told = rw c.in-Ok-Accepted.field-0-is at c.in-Ok-Accepted.ensures.answers in
    record {
      doc = plain_doc c.args.doc.now;
      means = means;
      tells = is_accepted told.narrow told.passes told.least
          (c.in_ok-with_number-in-Ok-Accepted.ensures
          ∙ ap (λ k. with_line Done (codes "accepted " ++ decimal k)) told.total_is);
    }

pub returns-in_ok-with_text-in-Ok-Rejected : goal.returns-in_ok-with_text-in-Ok-Rejected
returns-in_ok-with_text-in-Ok-Rejected c = λ bytes means.
    let told = rw c.in-Ok-Rejected.field-0-is at c.in-Ok-Rejected.ensures.answers in
    record {
      doc = plain_doc c.args.doc.now;
      means = means;
      tells = is_rejected c.in-Ok-Rejected.test told.narrow told.fails
          (c.in_ok-with_text-in-Ok-Rejected.ensures
          ∙ ap (λ word. with_line Negative (codes "rejected " ++ word)) c.test_text.ensures);
    }

pub returns-in-Err-TooWide : goal.returns-in-Err-TooWide
returns-in-Err-TooWide c = λ bytes means.
    let doc = plain_doc c.args.doc.now in
    let path = c.in-Err-TooWide.path in
    let first = rw c.in-Err-TooWide.field-0-is at c.in-Err-TooWide.ensures.refused in
    stops_as (λ r. r ≡ with_line Limit (codes "limit width " ++ path_text path))
    (TellsOfPack c.args.root.now (plain_dtd c.args.dtd.now) bytes c.args.pack.now)
    c.refuse_path.result
    (λ r is. record { doc = doc; means = means; tells = names_wide path first is })
    (rw c.places.ensures at c.refuse_path.ensures)
