-- The verdict of a list by what it looks at alone: the site of its owner, its word, and whether it
-- has no kids of any kind.
use Rattle.std.specs.Prelude.{Bool, IsTrue, List, None, Option, Some, [], false, true, ◌∷◌, ◌≡◌}
use Rattle.pv_model.specs.Models.{Allows}
use Rattle.pv_model.specs.Plain.{PlainModel, PlainToken, empty, named}
use Rattle.pv_dtd.specs.Plain.{PlainDtd, declared, model_of}
use Rattle.pv_dtd.specs.Productive.{IsProductive}
use Rattle.pv_rules.specs.Sites.{PlainSite, content_site, name_site, part_site, rest_site}
use Rattle.pv_tree.specs.Lists.{Owner, an_element, the_document}
use Rattle.pv_tree.specs.Plain.{Forest, Tree, no_trees, tree}
use Rattle.pv_missing.specs.FilledWords.{IsPossible, IsPossibleRoot}
use Rattle.pv_missing.specs.LiveWords.{IsLiveWord}
use Rattle.pv_missing.specs.Verdicts.{Judges}
use Rattle.pv_tree.specs.declared.nodes.Verdict.{Verdict}

-- there are no kids of any kind
abbrev pub has_no_trees : {M : Type 0} → Forest M → Bool
has_no_trees no_trees = true
has_no_trees (tree t rest) = false

-- a list of the document node holds one tree
abbrev pub HoldsOne : {M : Type 0} → Owner → Forest M → Type 0
HoldsOne {M} the_document kids = (t : Tree M) × (kids ≡ tree t no_trees)
HoldsOne (an_element x) kids = Unit {0}

-- the word is possible for the document node whose root is to have this name, or for the content of
-- an element of this name
abbrev pub IsPossibleAt : PlainDtd → PlainSite → List PlainToken → Type 0
IsPossibleAt g (name_site x) w = IsPossibleRoot g x w
IsPossibleAt g (content_site x) w = IsPossible g x w
IsPossibleAt g (part_site q) w = ⊥
IsPossibleAt g (rest_site q) w = ⊥

-- an element has a productive name, and none that is EMPTY has kids of any kind
abbrev pub MayHaveKids : PlainDtd → PlainSite → Bool → Type 0
MayHaveKids g (name_site x) none = Unit {0}
MayHaveKids g (content_site x) none = IsProductive g x × (model_of g x ≡ Some empty → IsTrue none)
MayHaveKids g (part_site q) none = ⊥
MayHaveKids g (rest_site q) none = ⊥

-- kids of this word, or none at all, may stand there
pub record IsLiveAt (g : PlainDtd) (s : PlainSite) (w : List PlainToken) (none : Bool) : Type 0
  where
    pub may_have : MayHaveKids g s none
    pub live : List PlainToken
    pub is_live : IsLiveWord g w live
    pub possible : IsPossibleAt g s live

-- they are one element of the root's name, or fit an element of this name by themselves
abbrev pub IsValidAt : PlainDtd → PlainSite → List PlainToken → Bool → Type 0
IsValidAt g (name_site x) w none = w ≡ named x ∷ []
IsValidAt g (content_site x) w none =
    (m : PlainModel) × (model_of g x ≡ Some m) × (m ≡ empty → IsTrue none) × Allows (declared g) m w
IsValidAt g (part_site q) w none = ⊥
IsValidAt g (rest_site q) w none = ⊥

-- kids of this word, or none at all, may stand in an owner, which has a site where the DTD has its
-- name
abbrev pub IsLiveByWord : PlainDtd → Option PlainSite → List PlainToken → Bool → Type 0
IsLiveByWord g None w none = ⊥
IsLiveByWord g (Some s) w none = IsLiveAt g s w none

abbrev pub IsValidByWord : PlainDtd → Option PlainSite → List PlainToken → Bool → Type 0
IsValidByWord g None w none = ⊥
IsValidByWord g (Some s) w none = IsValidAt g s w none

-- the verdict of a list whose owner has this site and whose word is this one; `none` says whether
-- it has no kids of any kind
abbrev pub IsVerdictByWord : PlainDtd → Option PlainSite → List PlainToken → Bool → Verdict → Type 0
IsVerdictByWord g owner w none v =
    Judges v (IsLiveByWord g owner w none) (IsValidByWord g owner w none)
