use Rattle.std.proofs.Common.{map, sym}
use Rattle.std.proofs.lemmas.List.{length-map}
use Rattle.pv_dtd.proofs.ProperDtds.{proper}
use Rattle.pv_model.specs.PlainForms.{plain_token}
use Rattle.pv_productive.specs.PlainForms.{dtd_of}
use Rattle.pv_denial.proofs.Sites.{by_sites}
use Rattle.pv_denial.proofs.Contents.{both}
use Rattle.pv_denial.proofs.rules.all_hold.Goals as goal

pub returns : goal.returns
returns c =
    let word = c.args.word.now in
    both c.sites_hold.ensures
    (by_sites (dtd_of c.args.grammar.now) (map plain_token word) _ (sym (length-map word plain_token)) c.args.barrier.now c.requires.rows (proper c.args.grammar.now.layout.dtd).named c.requires.known)
