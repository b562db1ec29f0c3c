use Rattle.pv_dtd.specs.PlainForms.{plain_dtd}
use Rattle.pv_valid.proofs.Tokens.{number_below, model_by_number, no_model_of_text}
use Rattle.pv_valid.proofs.Tokens.{no_model_of_other}
use Rattle.pv_many.proofs.valid_text.ValidLists.model_by.Goals as goal

pub laid_model_of-requires : goal.laid_model_of-requires
laid_model_of-requires c =
    number_below (plain_dtd c.args.self.now.dtd.now) c.requires.0 c.in-Name.id.0
    (rw c.in-Name.is at c.requires.1)

pub returns-in-Name : goal.returns-in-Name
returns-in-Name c =
    λ name is. model_by_number (plain_dtd c.args.self.now.dtd.now) name c.in-Name.id.0 _
    (rw c.in-Name.is at is) c.laid_model_of.ensures

pub returns-in-Text : goal.returns-in-Text
returns-in-Text c =
    λ name is. no_model_of_text (plain_dtd c.args.self.now.dtd.now) name (rw c.in-Text.is at is)

pub returns-in-Other : goal.returns-in-Other
returns-in-Other c =
    λ name is. no_model_of_other (plain_dtd c.args.self.now.dtd.now) name (rw c.in-Other.is at is)
