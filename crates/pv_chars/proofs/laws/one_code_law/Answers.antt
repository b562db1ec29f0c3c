use Rattle.std.proofs.Common.{sym, ◌∙◌}
use Rattle.std.proofs.lemmas.Str.{encode_same}
use Rattle.pv_chars.proofs.laws.one_code_law.Goals as goal

pub returns : goal.returns
returns c = λ bytes x y rest more a b. encode_same x y rest more (sym a.whole ∙ b.whole)
