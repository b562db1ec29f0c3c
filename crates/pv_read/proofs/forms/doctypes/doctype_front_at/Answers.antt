use Rattle.std.proofs.Common.{sym}
use Rattle.pv_tree.specs.Prolog.{IsExternalId}
use Rattle.pv_chars.proofs.Options.{match_none}
use Rattle.pv_chars.proofs.DeclarationLemmas.{passes_by}
use Rattle.pv_read.specs.Takes.{BeginsNoDoctypeFront, TakesDoctypeFront}
use Rattle.pv_read.proofs.DoctypeLemmas.{takes_front, no_front_blank, no_front_name}
use Rattle.pv_read.proofs.forms.doctypes.doctype_front_at.Goals as goal

pub returns-in_err-start : goal.returns-in_err-start
returns-in_err-start c =
    let bytes = c.args.bytes.now in
    match_none _ (BeginsNoDoctypeFront bytes) (λ r. TakesDoctypeFront bytes r.0.now r.1.now)
    c.from_residual-in_err-start.ensures (no_front_blank bytes c.in_ok-inside.inside.now
    c.in_ok-inside.ensures.found (sym c.in_err-start.ensures.after))

pub returns-in_err-name : goal.returns-in_err-name
returns-in_err-name c =
    let bytes = c.args.bytes.now in
    match_none _ (BeginsNoDoctypeFront bytes) (λ r. TakesDoctypeFront bytes r.0.now r.1.now) c.from_residual-in_err-name.ensures
    (no_front_name bytes c.in_ok-inside.inside.now c.in_ok-start.start.now c.in_ok-inside.ensures.found (sym c.in_ok-start.ensures.after) c.in_err-name.ensures.found)

pub returns : goal.returns
returns c =
    let after = c.in_ok-name.after in
    takes_front c.args.bytes.now c.in_ok-inside.inside.now c.in_ok-name.name.now c.after_space.result.now c.in_ok-inside.ensures.found record {
      start = c.in_ok-start.start.now;
      after = after.now;
      end = c.unwrap_or-end.result.now;
      blank = sym c.in_ok-start.ensures.after;
      named = c.in_ok-name.ensures.found;
      passed = passes_by IsExternalId after c.unwrap_or-end.result c.after_external_id.result c.after_external_id.ensures c.unwrap_or-end.ensures;
      closes = sym c.after_space.ensures.after;
    }
