-- The words of changed lists, beside the tree.
use Rattle.std.specs.Prelude.{IfSome, List, MatchOption, None, Some, [], Option, false, length, map}
use Rattle.std.specs.Prelude.{Bool, take, true, ℕ, ◌∷◌, ◌≡◌}
use Rattle.std.specs.List.{between, splice}
use Rattle.std.specs.Option.{ForSome}
use Rattle.pv_cache.specs.declared.words.Came.{Came}
use Rattle.pv_cache.specs.declared.words.Coming.{Coming}
use Rattle.pv_cache.specs.declared.words.Coming.TheVariants.{Name, Nodes}
use Rattle.pv_cache.specs.ShownKids.{number_shown, shown_of}
use Rattle.pv_cache.specs.declared.words.InnerWord.{InnerWord}
use Rattle.pv_cache.specs.declared.kept_lists.KeptLists.{KeptLists}
use Rattle.pv_cache.specs.declared.kept_lists.KeptTokens.{KeptTokens}
use Rattle.pv_cache.specs.declared.words.ListTokens.{ListTokens}
use Rattle.pv_cache.specs.declared.words.ListWord.{ListWord}
use Rattle.pv_cache.specs.declared.words.Words.{Words}
use Rattle.pv_missing.specs.Widths.{FitsVerdict}
use Rattle.pv_dtd.specs.Plain.{PlainDtd}
use Rattle.pv_edit.specs.BroughtElements.{brings_element}
use Rattle.pv_edit.specs.Changes.{Change, Filling, in_place_of, list_after}
use Rattle.pv_edit.specs.Reasons.{kids_at}
use Rattle.pv_missing.specs.WordVerdicts.{IsVerdictByWord, has_no_trees}
use Rattle.pv_model.specs.PlainForms.{plain_token}
use Rattle.pv_tree.specs.Plain.{Ending, Forest, PlainDoc, Tree, element, forest_of}
use Rattle.pv_tree.specs.PlainForms.{forest, plain_all}
use Rattle.pv_tree.specs.Words.{word_of}
use Rattle.pv_tree.specs.declared.nodes.Mark.{Mark}
use Rattle.pv_tree.specs.declared.nodes.Verdict.{Verdict}
use Rattle.pv_tree.specs.Lists.{an_element}
use Rattle.pv_rules.specs.Sites.{PlainSite}
use Rattle.pv_missing.specs.ListWeights.{site_of}
use Rattle.pv_cache.specs.declared.updates.InnerVerdict.{InnerVerdict}
use Rattle.pv_cache.specs.declared.updates.ChangedVerdicts.{ChangedVerdicts}

-- the word of a list, and whether it has no kids of any kind
pub record IsWordOf (g : PlainDtd) (kids : Forest Mark) (word : ListWord) : Type 0 where
  pub tokens : map plain_token word.tokens.items ≡ word_of g kids
  pub bare : word.is_bare ≡ has_no_trees kids

-- the word of a list, and of each kid whether it has a token in it
pub record AreListTokens (g : PlainDtd) (kids : Forest Mark) (tokens : ListTokens) : Type 0 where
  pub word : IsWordOf g kids tokens.word
  pub shown : tokens.shown.items ≡ shown_of kids

-- The tokens of a list, from one kid up to another of which others came; `bare` tells whether there
-- are no kids afterwards.
pub record IsSpliced (before : ListTokens) (from to : ℕ) (middle : ListTokens) (bare : Bool)
    (after : ListTokens) : Type 0 where
  pub tokens : after.word.tokens.items ≡ splice before.word.tokens.items
      (number_shown (take from before.shown.items)) (number_shown (take to before.shown.items))
      middle.word.tokens.items
  pub shown : after.shown.items ≡ splice before.shown.items from to middle.shown.items
  pub is_bare : after.word.is_bare ≡ bare

-- what is kept of a document's list is what stands at its path
abbrev pub AreKeptTokens : PlainDtd → PlainDoc Mark → KeptTokens → Type 0
AreKeptTokens g doc kept =
    (map plain_token kept.tokens.word.tokens.items
    ≡ word_of g (forest_of (kids_at kept.list doc.root)))
    × (kept.tokens.word.is_bare ≡ has_no_trees (forest_of (kids_at kept.list doc.root)))
    × (kept.tokens.shown.items ≡ shown_of (forest_of (kids_at kept.list doc.root)))

-- what is kept of each of a document's lists is what stands at its path
abbrev pub AreKeptLists : PlainDtd → PlainDoc Mark → KeptLists → Type 0
AreKeptLists g doc kept =
    ForSome kept.last (AreKeptTokens g doc) × ForSome kept.asked (AreKeptTokens g doc)
    × ForSome kept.older (AreKeptTokens g doc)

-- these nodes come, or an element of this name
abbrev pub IsComing : List (Tree Mark) → Coming → Type 0
IsComing new (Nodes nodes) = new ≡ plain_all nodes.now
IsComing new (Name name) =
    (attrs : List ℕ) × (ending : Ending) × (kids : Forest Mark) × (mark : Mark) ×
    (new ≡ element name.now attrs ending kids mark ∷ [])

-- the element that came alone, whose list is new or has a new owner's name
pub record IsCame (filling : Filling Mark) (new : List (Tree Mark)) (came : Came) : Type 0 where
  pub brought : brings_element filling ≡ true
  pub attrs : List ℕ
  pub ending : Ending
  pub mark : Mark
  pub is_one : new ≡ element came.name.now attrs ending (forest came.kids.now) mark ∷ []

-- the word of the list of the element that came alone
pub record IsInnerWord (g : PlainDtd) (filling : Filling Mark) (new : List (Tree Mark))
    (inner : InnerWord) : Type 0 where
  pub brought : brings_element filling ≡ true
  pub attrs : List ℕ
  pub ending : Ending
  pub kids : Forest Mark
  pub mark : Mark
  pub is_one : new ≡ element inner.name.now attrs ending kids mark ∷ []
  pub word : IsWordOf g kids inner.word

-- The words of the lists that a change of these kids changes.
pub record AreWords (g : PlainDtd) (c : Change Mark) (kids : List (Tree Mark)) (words : Words) :
    Type 0 where
  pub outer : AreListTokens g (forest_of (list_after c kids)) words.outer
  pub inner : MatchOption words.inner (brings_element c.filling ≡ false)
      (IsInnerWord g c.filling (in_place_of c.filling (between c.from c.to kids)))

-- none of them is too wide for a verdict
pub record AreNarrow (g : PlainDtd) (words : Words) : Type 0 where
  pub outer : FitsVerdict g (length words.outer.word.tokens.items)
  pub inner : IfSome words.inner (λ inner. FitsVerdict g (length inner.word.tokens.items))

-- a verdict found by a word
abbrev pub IsFound : PlainDtd → Option PlainSite → ListWord → Verdict → Type 0
IsFound g site word v = IsVerdictByWord g site (map plain_token word.tokens.items) word.is_bare v

-- A list, of an owner with this site and of this word, is found to have this verdict, and isn't too
-- wide for one.
pub record IsFoundList (g : PlainDtd) (site : Option PlainSite) (word : ListWord) (v : Verdict) :
    Type 0 where
  pub found : IsFound g site word v
  pub narrow : FitsVerdict g (length word.tokens.items)

-- the site of an element's list
abbrev pub inner_site : PlainDtd → InnerWord → Option PlainSite
inner_site g inner = site_of g [] (an_element inner.name.now)

-- the verdict of the inner list, where there is one
abbrev pub IsInnerFound : PlainDtd → ℕ → Option InnerWord → Option InnerVerdict → Type 0
IsInnerFound g from None None = Unit {0}
IsInnerFound g from None (Some v) = ⊥
IsInnerFound g from (Some inner) None = ⊥
IsInnerFound g from (Some inner) (Some i) =
    (i.place ≡ from) × IsFoundList g (inner_site g inner) inner.word i.verdict

-- the verdicts of lists of these words
pub record AreFound (g : PlainDtd) (site : Option PlainSite) (from : ℕ) (words : Words)
    (verdicts : ChangedVerdicts) : Type 0 where
  pub outer : IsFoundList g site words.outer.word verdicts.outer
  pub inner : IsInnerFound g from words.inner verdicts.inner
