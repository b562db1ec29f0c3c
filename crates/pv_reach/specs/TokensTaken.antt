-- What the content of a name takes, token by token.
use Rattle.std.specs.Prelude.{List, [], length, ℕ, ◌∷◌, ◌↔◌}
use Rattle.std.specs.List.{AllByRecursion}
use Rattle.pv_model.specs.Plain.{PlainToken}
use Rattle.pv_model.specs.PlainForms.{plain_token}
use Rattle.pv_model.specs.declared.models.Token.{Token}
use Rattle.pv_dtd.specs.Plain.{PlainDtd}
use Rattle.pv_rules.specs.SiteDerivations.{DerivesAt}
use Rattle.pv_rules.specs.Sites.{content_site}
use Rattle.pv_columns.specs.Tokens.{IsInRow}
use Rattle.pv_missing.specs.LiveWords.{AreProductiveTokens, IsProductiveToken}

-- the content of the name derives this token alone
abbrev pub ContentTakes : PlainDtd → ℕ → PlainToken → Type 0
ContentTakes g x t = DerivesAt g (t ∷ []) (content_site x) 0 1

-- the content of the name derives exactly the words of tokens that it takes, in any order and
-- number
abbrev pub IsFreeContent : PlainDtd → ℕ → Type 0
IsFreeContent g x = (w : List PlainToken) → AreProductiveTokens g w →
    DerivesAt g w (content_site x) 0 (length w) ↔ AllByRecursion (ContentTakes g x) w

-- of the tokens of productive names, the set has those that the content takes
abbrev pub IsContentSet : PlainDtd → ℕ → List ℕ → Type 0
IsContentSet g x row = (t : Token) → IsProductiveToken g (plain_token t) →
    IsInRow row t ↔ ContentTakes g x (plain_token t)
