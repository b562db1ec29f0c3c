use Rattle.std.proofs.Common.{map, sym}
use Rattle.std.proofs.lemmas.List.{length-map}
use Rattle.pv_model.specs.PlainForms.{plain_token}
use Rattle.pv_productive.specs.PlainForms.{dtd_of}
use Rattle.pv_denial.proofs.SiteKinds.{holds_name}
use Rattle.pv_denial.proofs.Contents.{both}
use Rattle.pv_denial.proofs.rules.name_holds.Goals as goal

pub returns : goal.returns
returns c =
    let word = c.args.word.now in
    both c.element_holds.ensures
    (holds_name (dtd_of c.args.grammar.now) (map plain_token word) _ (sym (length-map word plain_token)) c.args.barrier.now c.requires.rows c.args.id.0)
