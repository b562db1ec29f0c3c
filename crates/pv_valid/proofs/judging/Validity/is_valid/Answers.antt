use Rattle.std.proofs.lemmas.Bool.Decides.{Decides-ltb}
use Rattle.pv_dtd.specs.Plain.{number_of}
use Rattle.pv_dtd.specs.PlainForms.{plain_dtd}
use Rattle.pv_tree.specs.Plain.{forest_of}
use Rattle.pv_valid.proofs.EmptyElements.{some_kids}
use Rattle.pv_valid.proofs.judging.Validity.is_valid.Goals as goal

pub model_by-model-requires : goal.model_by-model-requires
model_by-model-requires c = (c.args.list.now.name.now, c.requires.1.is_token)

pub returns : goal.returns
returns c = λ kids whole.
    let g = plain_dtd c.args.self.now.dtd.now in
    let list = c.args.list.now in
    c.fits.ensures (number_of g list.name.now) (forest_of kids)
    (c.model_by-model.ensures list.name.now whole.is_token)
    (some_kids kids list.kids _ whole.is_count (Decides-ltb 0 list.kids)) whole.is_word
