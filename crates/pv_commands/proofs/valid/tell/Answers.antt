use Rattle.std.proofs.Common.{◌++◌, codes, refl, ap, ◌∙◌}
use Rattle.pv_tree.specs.Marks.{blank_mark}
use Rattle.pv_read.proofs.Agreement.{spelled_where_meant}
use Rattle.pv_dtd.specs.PlainForms.{plain_dtd}
use Rattle.pv_opening.specs.Documents.{RefusesDocument}
use Rattle.pv_opening.specs.Response.{with_line}
use Rattle.pv_commands.specs.Validity.{TellsValidityOf}
use Rattle.pv_opening.proofs.Stages.{refusal_stops}
use Rattle.pv_words.specs.Paths.{path_text}
use Rattle.pv_commands.specs.Valid.{is_valid, is_invalid}
use Rattle.pv_opening.specs.declared.status.Status.TheVariants.{Negative}
use Rattle.pv_commands.proofs.valid.tell.Goals as goal

pub returns-in-Err : goal.returns-in-Err
returns-in-Err c =
    let root = c.args.root.now in
    let bytes = c.args.bytes.now in
    refusal_stops (TellsValidityOf root (plain_dtd c.args.dtd.now) bytes)
    (RefusesDocument root bytes) c.refuse_document.result
    (c.refuse_document.ensures root bytes c.in-Err.ensures.refused)

pub returns-in_ok-with_line-in-None : goal.returns-in_ok-with_line-in-None
returns-in_ok-with_line-in-None c =
    let read = c.in-Ok.ensures.read in
    let told : TellsValidityOf c.args.root.now (plain_dtd c.args.dtd.now) c.args.bytes.now _ =
    record {
      doc = read.0;
      is_text = (spelled_where_meant blank_mark c.args.root.now c.args.bytes.now read.0 read.1).0;
      tells = is_valid ((c.in-Ok.ensures.valid read.0 read.1).0 (rw c.in-None.is refl))
          c.in_ok-with_line-in-None.ensures;
    } in (told, refl)

pub returns-in_ok-with_path-in-Some : goal.returns-in_ok-with_path-in-Some
returns-in_ok-with_path-in-Some c =
    let read = c.in-Ok.ensures.read in
    let told : TellsValidityOf c.args.root.now (plain_dtd c.args.dtd.now) c.args.bytes.now _ =
    record {
      doc = read.0;
      is_text = (spelled_where_meant blank_mark c.args.root.now c.args.bytes.now read.0 read.1).0;
      tells = is_invalid c.in-Some.path (rw c.in-Some.is at (c.in-Ok.ensures.first read.0 read.1))
          (c.in_ok-with_path-in-Some.ensures
          ∙ ap (λ places. with_line Negative (codes "invalid " ++ path_text places))
          c.places.ensures);
    } in (told, refl)
