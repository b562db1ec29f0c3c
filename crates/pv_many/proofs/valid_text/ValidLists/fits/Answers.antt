use Rattle.std.proofs.Common.{Some, ap, sym, ◌∙◌}
use Rattle.std.specs.Option.{option_copied, option_map}
use Rattle.pv_model.specs.PlainForms.{plain_model}
use Rattle.pv_dtd.specs.PlainForms.{plain_dtd}
use Rattle.pv_valid.proofs.EmptyElements.{fits_empty}
use Rattle.pv_many.proofs.valid_text.ValidLists.fits.Goals as goal

pub returns-in-Empty : goal.returns-in-Empty
returns-in-Empty c = λ owner kids is has word.
    fits_empty (plain_dtd c.args.self.now.dtd.now) owner kids c.args.has_kids
    (sym is ∙ ap (λ m. option_map plain_model (option_copied m)) c.in-Some.is
    ∙ ap (λ m. Some (plain_model m)) (sym c.model.ensures ∙ c.in-Empty.is)) has
