use Rattle.pv_dtd.specs.PlainForms.{plain_dtd}
use Rattle.pv_long.proofs.ExactAnswers.{completion_text, wide_text}
use Rattle.pv_long.proofs.checking.is_completion.Goals as goal

pub returns-in-Ok : goal.returns-in-Ok
returns-in-Ok c = λ kept doc means written.
    let root = c.args.root.now in
    let text = wide_text c.wider_limits_law.ensures root c.args.bytes.now doc means in
    let read = c.in-Ok-true.ensures.read in
    let valid = (c.in-Ok-true.ensures.valid read.0 read.1).0 c.in-Ok-true.field-0-test in
    let keeps = (c.in-Ok.ensures.kept doc read.0 text read.1).0 kept in
    completion_text (plain_dtd c.args.dtd.now) root doc c.tags_extend_law.ensures read.0 c.args.marks.now c.args.body.now read.1 valid keeps written
