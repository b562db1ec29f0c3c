-- The token that a node may have, before others.
use Rattle.std.specs.Prelude.{List, ◌∷◌, Option, Some, None}
use Rattle.pv_model.specs.Plain.{PlainToken}
use Rattle.pv_model.specs.PlainForms.{plain_token}
use Rattle.pv_model.specs.declared.models.Token.{Token}

abbrev pub token_before : Option Token → List PlainToken → List PlainToken
token_before (Some t) rest = plain_token t ∷ rest
token_before None rest = rest
