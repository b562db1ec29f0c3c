-- Laws of words, each a statement.
use Rattle.std.specs.Prelude.{List, length, suc, ℕ, ◌++◌, ◌↔◌, ◌∷◌, ◌≡◌, ◌≤◌}
use Rattle.pv_model.specs.Plain.{PlainToken, text}
use Rattle.pv_dtd.specs.Plain.{PlainDtd}
use Rattle.pv_rules.specs.Derivations.{Derives}
use Rattle.pv_rules.specs.SiteDerivations.{DerivesAt}
use Rattle.pv_rules.specs.Rules.{Rule, over}
use Rattle.pv_rules.specs.Sites.{content_site, name_site}
use Rattle.pv_missing.specs.Covers.{IsLeastInNothing, IsPossibleRootWith, IsPossibleWith}
use Rattle.pv_dtd.specs.Proper.{IsProperDtd}
use Rattle.pv_missing.specs.FilledWords.{IsPossible, IsPossibleRoot}
use Rattle.pv_missing.specs.LiveWords.{AreProductiveTokens, FollowsWord, IsLiveWord}
use Rattle.pv_dtd.specs.Productive.{IsLeastSize, IsProductive}
use Rattle.pv_missing.specs.PlainForms.{plain_of}
use Rattle.pv_missing.specs.WordVerdicts.{IsPossibleAt}
use Rattle.pv_missing.specs.declared.owners.Of.{Of}

-- depths, and finite derivations with their numbers of missing elements, say the same
abbrev pub DepthsAgree : Type 0
DepthsAgree = (g : PlainDtd) (x : ℕ) (w : List PlainToken) →
    (IsPossible g x w ↔ ((n : ℕ) × IsPossibleWith g x n w)) ×
    (IsPossibleRoot g x w ↔ ((n : ℕ) × IsPossibleRootWith g x n w))

-- a possible word stays possible where a token is left out
abbrev pub LeftOut : Type 0
LeftOut = (g : PlainDtd) (x : ℕ) (a b : List PlainToken) (t : PlainToken) →
    (IsPossible g x (a ++ t ∷ b) → IsPossible g x (a ++ b)) ×
    (IsPossibleRoot g x (a ++ t ∷ b) → IsPossibleRoot g x (a ++ b))

-- and where a text is doubled, or two side by side are merged, with as many elements missing
abbrev pub Doubled : Type 0
Doubled = (g : PlainDtd) (x n : ℕ) (a b : List PlainToken) →
    (IsPossibleWith g x n (a ++ text ∷ b) ↔ IsPossibleWith g x n (a ++ text ∷ text ∷ b)) ×
    (IsPossibleRootWith g x n (a ++ text ∷ b) ↔ IsPossibleRootWith g x n (a ++ text ∷ text ∷ b))

-- the live word is possible exactly where the word is, with as many elements missing
abbrev pub LiveAgrees : Type 0
LiveAgrees = (g : PlainDtd) (x n : ℕ) (w live : List PlainToken) → IsLiveWord g w live →
    (IsPossibleWith g x n w ↔ IsPossibleWith g x n live) ×
    (IsPossibleRootWith g x n w ↔ IsPossibleRootWith g x n live)

-- a live word has productive names only, has as many tokens as the word, and is the word itself
-- where it is possible
abbrev pub LiveFollows : Type 0
LiveFollows = (g : PlainDtd) (w live : List PlainToken) → IsLiveWord g w live → FollowsWord g w live

-- an element for whose content some word is possible has a productive name
abbrev pub OwnerIsProductive : Type 0
OwnerIsProductive = (g : PlainDtd) (x : ℕ) (w : List PlainToken) → IsProperDtd g →
    IsPossible g x w → IsProductive g x

-- the least size of a name is one more than the least number of elements missing in empty content
abbrev pub SizeIsMissing : Type 0
SizeIsMissing = (g : PlainDtd) (x n : ℕ) → IsProperDtd g →
    IsLeastSize g x (suc n) ↔ IsLeastInNothing g x n

-- a word has at most one live word
abbrev pub OneLiveWord : Type 0
OneLiveWord = (g : PlainDtd) (w a b : List PlainToken) → IsLiveWord g w a → IsLiveWord g w b → a ≡ b

-- A word whose names are productive is possible exactly where the content has a derivation over all
-- of it; the derivation needs no more than the missing elements weigh.
abbrev pub ContentDerives : Type 0
ContentDerives = (g : PlainDtd) (x n : ℕ) (w : List PlainToken) → IsProperDtd g →
    AreProductiveTokens g w →
    (Derives (Rule g w) n (over (content_site x) 0 (length w)) → IsPossibleWith g x n w) ×
    (IsPossibleWith g x n w → (m : ℕ) × (m ≤ n) ×
    Derives (Rule g w) m (over (content_site x) 0 (length w)))

-- A word whose names are productive is possible in the document node exactly where an element of
-- the root's name has a derivation over all of it; the derivation needs no more than the missing
-- elements weigh.
abbrev pub RootDerives : Type 0
RootDerives = (g : PlainDtd) (x n : ℕ) (w : List PlainToken) → IsProperDtd g →
    AreProductiveTokens g w →
    (Derives (Rule g w) n (over (name_site x) 0 (length w)) → IsPossibleRootWith g x n w) ×
    (IsPossibleRootWith g x n w → (m : ℕ) × (m ≤ n) ×
    Derives (Rule g w) m (over (name_site x) 0 (length w)))

-- So such a word is possible for an owner exactly where its site derives all of it.
abbrev pub PossibleDerives : Type 0
PossibleDerives = (g : PlainDtd) (owner : Of) (w : List PlainToken) → IsProperDtd g →
    AreProductiveTokens g w →
    DerivesAt g w (plain_of owner) 0 (length w) ↔ IsPossibleAt g (plain_of owner) w
