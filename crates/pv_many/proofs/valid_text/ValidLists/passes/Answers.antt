use Rattle.std.proofs.Common.{◌≡◌, length, ap, subst, sym, ◌∙◌}
use Rattle.std.proofs.lemmas.Bool.Decides.{Decides-ltb}
use Rattle.std.proofs.lemmas.List.{length-map}
use Rattle.std.proofs.lemmas.Result.{IfOk-weaker}
use Rattle.pv_dtd.specs.Plain.{number_of}
use Rattle.pv_dtd.specs.PlainForms.{plain_dtd}
use Rattle.pv_missing.specs.Widths.{FitsVerdict}
use Rattle.pv_tree.specs.Plain.{forest_of}
use Rattle.pv_tree.specs.Words.{word_of}
use Rattle.pv_valid.proofs.EmptyElements.{some_kids}
use Rattle.pv_many.proofs.valid_text.ValidLists.passes.Goals as goal

pub model_by-requires : goal.model_by-requires
model_by-requires c = (c.args.list.now.name.now, c.requires.1.is_token)

pub returns : goal.returns
returns c = λ kids whole.
    let g = plain_dtd c.args.self.now.dtd.now in
    let list = c.args.list.now in
    let long : length c.args.word.now ≡ length (word_of g (forest_of kids)) = sym
    (length-map c.args.word.now _) ∙ ap length whole.is_word in
    IfOk-weaker c.fits.result _ _
    (λ fits is yes. (
      is.0 yes,
      subst (FitsVerdict g) long
          (c.is_narrow.ensures.0 c.if-not-is_narrow.false),
    ))
    (c.fits.ensures (number_of g list.name.now) (forest_of kids)
    (c.model_by.ensures list.name.now whole.is_token)
    (some_kids kids list.kids _ whole.is_count (Decides-ltb 0 list.kids)) whole.is_word)
