-- Lists judged by their words: which are too wide, and the verdicts of the others.
use Rattle.std.specs.Prelude.{◌≡◌, ℕ, Bool, List, length, Option, Some, None}
use Rattle.pv_model.specs.Plain.{PlainToken, named, text, other}
use Rattle.pv_dtd.specs.Plain.{PlainDtd}
use Rattle.pv_rules.specs.Sites.{PlainSite, content_site}
use Rattle.pv_tree.specs.Lists.{Listed, an_element}
use Rattle.pv_tree.specs.Plain.{Tree, forest_of}
use Rattle.pv_tree.specs.Words.{word_of}
use Rattle.pv_tree.specs.declared.nodes.Mark.{Mark}
use Rattle.pv_tree.specs.declared.nodes.Verdict.{Verdict}
use Rattle.pv_tree.specs.declared.nodes.Verdict.TheVariants as verdict
use Rattle.pv_missing.specs.Verdicts.{IsLive, IsVerdict}
use Rattle.pv_missing.specs.Widths.{FitsVerdict}
use Rattle.pv_missing.specs.WordVerdicts.{IsVerdictByWord}
use Rattle.pv_check.specs.declared.widths.Widths.{Widths}
use Rattle.pv_check.specs.declared.widths.Widths.TheVariants as widths

-- a list of so many tokens isn't too wide: for a verdict, or at all
abbrev pub FitsWithin : Widths → PlainDtd → ℕ → Type 0
FitsWithin widths.Limited g n = FitsVerdict g n
FitsWithin widths.Any g n = Unit {0}

abbrev pub IsListWithin : Widths → PlainDtd → Listed Mark → Type 0
IsListWithin s g list = FitsWithin s g (length (word_of g list.kids))

-- the list is too wide, where there is no verdict, and else this is its verdict
abbrev pub JudgesList : Widths → PlainDtd → List ℕ → Listed Mark → Option Verdict → Type 0
JudgesList s g root list None = IsListWithin s g list → ⊥
JudgesList s g root list (Some v) = IsListWithin s g list × IsVerdict g root list v

-- the list of an element of this name with these kids is too wide, where there is no verdict, and
-- otherwise this is its verdict, wherever it stands
abbrev pub JudgesOwn : Widths → PlainDtd → List ℕ → List (Tree Mark) → Option Verdict → Type 0
JudgesOwn s g name kids v = (root path : List ℕ) → JudgesList s g root
    (record { path = path; owner = an_element name; kids = forest_of kids }) v

-- a list whose owner has this site and whose word is this one is too wide, where there is no
-- verdict, and otherwise this is its verdict
abbrev pub JudgesWord : Widths → PlainDtd → Option PlainSite → List PlainToken → Bool →
    Option Verdict → Type 0
JudgesWord s g owner w none None = FitsWithin s g (length w) → ⊥
JudgesWord s g owner w none (Some v) =
    FitsWithin s g (length w) × IsVerdictByWord g owner w none v

-- the list is neither too wide nor impossible
abbrev pub IsNarrowAndLive : Widths → PlainDtd → List ℕ → Listed Mark → Type 0
IsNarrowAndLive s g root list = IsListWithin s g list × IsLive g root list

-- the site of the content of an element that has this token in the list that it stands in
abbrev pub site_of_token : PlainToken → Option PlainSite
site_of_token (named x) = Some (content_site x)
site_of_token text = None
site_of_token other = None

-- the places of a list that is too wide or impossible are those of its path
abbrev pub IsPlaced : Option Verdict → List ℕ → List ℕ → Type 0
IsPlaced None path places = places ≡ path
IsPlaced (Some verdict.Valid) path places = Unit {0}
IsPlaced (Some verdict.Possible) path places = Unit {0}
IsPlaced (Some verdict.Impossible) path places = places ≡ path
