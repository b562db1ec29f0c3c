-- What is kept of a list's word, and what a change of the word makes of it.
use Rattle.std.specs.Prelude.{IfSome, List, None, Option, Some, ℕ, ◌≡◌}
use Rattle.pv_model.specs.Plain.{PlainModel, PlainToken}
use Rattle.pv_rematch.specs.WordMatches.{IsWordMatch, IsTurn}
use Rattle.pv_dtd.specs.Plain.{PlainDtd, declared, model_of}
use Rattle.pv_rules.specs.Sites.{PlainSite, content_site, name_site, part_site, rest_site}
use Rattle.pv_verdicts.specs.TokenCounts.{AreCounts}
use Rattle.pv_verdicts.specs.declared.judged.Judged.{Judged}
use Rattle.pv_verdicts.specs.declared.judged.Kept.{Kept}
use Rattle.pv_verdicts.specs.declared.judged.KeptTurn.{KeptTurn}
use Rattle.pv_verdicts.specs.declared.judged.Turned.{Turned}

-- Kept of the word of an element of this name: how many of its tokens keep it from being possible,
-- and its match under the name's content model.
pub record IsKeptOf (g : PlainDtd) (x : ℕ) (w : List PlainToken) (kept : Kept) : Type 0 where
  pub counts : AreCounts g x w kept.counts
  pub model : PlainModel
  pub is_model : model_of g x ≡ Some model
  pub word_match : IsWordMatch (declared g) model w kept.word_match

-- something is kept of the words of elements alone
abbrev pub IsKeptAt : PlainDtd → Option PlainSite → List PlainToken → Kept → Type 0
IsKeptAt g None w kept = ⊥
IsKeptAt g (Some (name_site x)) w kept = ⊥
IsKeptAt g (Some (content_site x)) w kept = IsKeptOf g x w kept
IsKeptAt g (Some (part_site q)) w kept = ⊥
IsKeptAt g (Some (rest_site q)) w kept = ⊥

-- if something is kept, it is that of the word of a list whose owner has this site
abbrev pub IsJudged : PlainDtd → Option PlainSite → List PlainToken → Judged → Type 0
IsJudged g owner w judged = IfSome judged.kept (IsKeptAt g owner w)

-- the counts of the word of an element of this name, and the turn that makes of the match that was
-- kept the match of the word
pub record IsTurnOf (g : PlainDtd) (x : ℕ) (w : List PlainToken) (kept : Kept) (turn : KeptTurn)
    : Type 0 where
  pub counts : AreCounts g x w turn.counts
  pub model : PlainModel
  pub is_model : model_of g x ≡ Some model
  pub word_match : IsTurn (declared g) model w kept.word_match turn.turn

abbrev pub IsTurnAt : PlainDtd → Option PlainSite → List PlainToken → Kept → KeptTurn → Type 0
IsTurnAt g None w kept turn = ⊥
IsTurnAt g (Some (name_site x)) w kept turn = ⊥
IsTurnAt g (Some (content_site x)) w kept turn = IsTurnOf g x w kept turn
IsTurnAt g (Some (part_site q)) w kept turn = ⊥
IsTurnAt g (Some (rest_site q)) w kept turn = ⊥

-- what was kept becomes what is kept of this word, in a list whose owner has this site
abbrev pub IsTurned : PlainDtd → Option PlainSite → List PlainToken → Judged → Turned → Type 0
IsTurned g owner w judged turned = IfSome turned.kept (λ turn. (kept : Kept) ×
    (judged.kept ≡ Some kept) × IsTurnAt g owner w kept turn)
