-- What is kept of the word that was judged last.
use Rattle.std.specs.Prelude.{map}
use Rattle.std.specs.Option.{option_map}
use Rattle.pv_dtd.specs.Plain.{PlainDtd}
use Rattle.pv_missing.specs.PlainForms.{plain_of}
use Rattle.pv_model.specs.PlainForms.{plain_token}
use Rattle.pv_verdicts.specs.Judged.{IsJudged}
use Rattle.pv_verdicts.specs.declared.last.LastWord.{LastWord}

-- what is kept of the last word is that of the word of a list with its owner
abbrev pub IsLast : PlainDtd → LastWord → Type 0
IsLast g last =
    IsJudged g (option_map plain_of last.owner) (map plain_token last.tokens.items) last.judged
