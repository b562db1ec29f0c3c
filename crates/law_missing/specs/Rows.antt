-- What the definitions say of small words and documents, each a statement.
use Rattle.std.specs.Prelude.{List, None, Some, [], codes, length, ℕ, ◌∷◌, ◌≡◌}
use Rattle.std.specs.List.{AllByRecursion}
use Rattle.pv_model.specs.Plain.{choice, name, named, no_parts, other, part, star, text}
use Rattle.pv_dtd.specs.Plain.{PlainDtd}
use Rattle.pv_tree.specs.Lists.{IsOwnValid, lists_of}
use Rattle.pv_tree.specs.Plain.{Tree, forest_of}
use Rattle.pv_tree.specs.View.{view}
use Rattle.pv_missing.specs.Completions.{IsLeast, IsPotentiallyValid}
use Rattle.pv_missing.specs.FilledWords.{IsPossible, IsPossibleRoot}
use Rattle.pv_missing.specs.LiveWords.{IsLiveWord}
use Rattle.pv_rules.specs.Numbering.{first_part, numbered_models, part_at, rest_at}
use Rattle.law_missing.specs.Documents.{blank_in_br, comment_alone, completed_letter, doc_of}
use Rattle.law_missing.specs.Documents.{em_alone, head_then_text, hello, letter, mentioned_name}
use Rattle.law_missing.specs.Documents.{nested_em, p_alone, p_then_title, sec_then_head, sec_with}
use Rattle.law_missing.specs.Documents.{tag, three_ys, unknown_name}
use Rattle.law_missing.specs.Dtds.{any_dtd, any_endless_dtd, doubling_dtd, endless_dtd, nested_dtd}
use Rattle.law_missing.specs.Dtds.{pair_dtd, sections_dtd}
use Rattle.pv_missing.specs.Verdicts.{AreVerdicts, IsFirstImpossible, IsVerdict}
use Rattle.pv_tree.specs.declared.nodes.Verdict.{Verdict}
use Rattle.pv_tree.specs.declared.nodes.Verdict.TheVariants as verdict

-- the document has these verdicts, and so many elements are missing in it
abbrev pub NeedsWith : PlainDtd → List ℕ → Tree Unit → List Verdict → ℕ → Type 0
NeedsWith g root t vs n = AreVerdicts g root (lists_of (doc_of t)) vs × IsLeast g root n (view t)

-- the document is impossible, and the list at this path is the first that is
abbrev pub IsImpossibleAt : PlainDtd → List ℕ → Tree Unit → List ℕ → Type 0
IsImpossibleAt g root t path = IsFirstImpossible g root (lists_of (doc_of t)) path ×
    (IsPotentiallyValid g root (view t) → ⊥)

-- words of the content of doc, of the document node and of the content of br
abbrev pub SectionWords : Type 0
SectionWords =
    IsPossible sections_dtd 0 (text ∷ []) ×
    IsPossible sections_dtd 0 (named 4 ∷ named 3 ∷ []) ×
    (IsPossible sections_dtd 0 (named 2 ∷ named 1 ∷ []) → ⊥) ×
    IsPossibleRoot sections_dtd 0 (named 4 ∷ []) ×
    IsPossible sections_dtd 6 [] ×
    (IsPossible sections_dtd 6 (text ∷ []) → ⊥)

abbrev pub OtherWords : Type 0
OtherWords =
    IsPossible nested_dtd 0 (named 1 ∷ named 1 ∷ named 1 ∷ []) ×
    (IsPossibleRoot endless_dtd 0 [] → ⊥) ×
    (IsPossible any_dtd 0 (named 1 ∷ other ∷ []) → ⊥)

-- live words
abbrev pub LiveWords : Type 0
LiveWords =
    IsLiveWord any_dtd (named 1 ∷ named 2 ∷ text ∷ other ∷ []) (named 1 ∷ other ∷ text ∷ other ∷ [])

-- two elements are missing in <doc>Hello</doc>, a head round the text and an empty sec
abbrev pub HelloRow : Type 0
HelloRow = NeedsWith sections_dtd (codes "doc") hello (verdict.Valid ∷ verdict.Possible ∷ []) 2

-- a text after a head misses a sec and a title or p in it
abbrev pub HeadTextRow : Type 0
HeadTextRow = NeedsWith sections_dtd (codes "doc") head_then_text
    (verdict.Valid ∷ verdict.Possible ∷ verdict.Valid ∷ []) 2

abbrev pub EmRow : Type 0
EmRow = NeedsWith sections_dtd (codes "doc") em_alone
    (verdict.Valid ∷ verdict.Possible ∷ verdict.Valid ∷ []) 3

abbrev pub TitleRow : Type 0
TitleRow = NeedsWith sections_dtd (codes "doc") p_then_title
    (verdict.Valid ∷ verdict.Possible ∷ verdict.Valid ∷ verdict.Valid ∷ []) 3

abbrev pub HeadRow : Type 0
HeadRow = IsImpossibleAt sections_dtd (codes "doc") sec_then_head (0 ∷ [])

-- the missing elements may stand above the root
abbrev pub ParagraphRow : Type 0
ParagraphRow = NeedsWith sections_dtd (codes "doc") p_alone
    (verdict.Possible ∷ verdict.Valid ∷ []) 3

abbrev pub BlankRow : Type 0
BlankRow = IsImpossibleAt sections_dtd (codes "doc") blank_in_br (0 ∷ 1 ∷ 0 ∷ 0 ∷ [])

abbrev pub CommentRow : Type 0
CommentRow = NeedsWith sections_dtd (codes "doc") comment_alone
    (verdict.Valid ∷ verdict.Possible ∷ []) 2

-- a reference to white space is data, and a literal blank isn't
abbrev pub ReferenceRow : Type 0
ReferenceRow =
    NeedsWith sections_dtd (codes "doc") (sec_with (codes "&#32;" ∷ []))
    (verdict.Valid ∷ verdict.Valid ∷ verdict.Valid ∷ verdict.Possible ∷ []) 1 ×
    NeedsWith sections_dtd (codes "doc") (sec_with ((32 ∷ []) ∷ []))
    (verdict.Valid ∷ verdict.Valid ∷ verdict.Valid ∷ verdict.Valid ∷ []) 0

-- missing elements one inside another
abbrev pub NestedRow : Type 0
NestedRow = NeedsWith nested_dtd (codes "x") three_ys
    (verdict.Valid ∷ verdict.Possible ∷ verdict.Valid ∷ verdict.Valid ∷ verdict.Valid ∷ []) 3

-- a name that isn't productive
abbrev pub EndlessRow : Type 0
EndlessRow = IsImpossibleAt endless_dtd (codes "a") (tag (codes "a") (tag (codes "a") [] ∷ [])) []

abbrev pub PairRow : Type 0
PairRow =
    NeedsWith pair_dtd (codes "a") (tag (codes "a") []) (verdict.Valid ∷ verdict.Possible ∷ []) 1 ×
    NeedsWith pair_dtd (codes "a") (tag (codes "a") (tag (codes "b") [] ∷ []))
    (verdict.Valid ∷ verdict.Valid ∷ verdict.Valid ∷ []) 0

-- more elements are missing than any weight says
abbrev pub DoublingRow : Type 0
DoublingRow = NeedsWith doubling_dtd (codes "t0") (tag (codes "t0") [])
    (verdict.Valid ∷ verdict.Possible ∷ []) 2097150

-- a name that the DTD doesn't have, and one that it only mentions
abbrev pub UnknownRow : Type 0
UnknownRow = IsImpossibleAt any_dtd (codes "r") unknown_name (0 ∷ []) ×
    IsImpossibleAt any_dtd (codes "r") mentioned_name (0 ∷ 0 ∷ [])

-- all lists are valid, at any depth
abbrev pub DeepRow : Type 0
DeepRow = (n : ℕ) →
    AllByRecursion (λ list. IsVerdict sections_dtd (codes "em") list verdict.Valid)
    (lists_of (doc_of (nested_em n)))

abbrev pub LetterRow : Type 0
LetterRow = NeedsWith sections_dtd (codes "doc") letter
    (verdict.Valid ∷ verdict.Valid ∷ verdict.Valid ∷ verdict.Possible ∷ verdict.Valid ∷
    verdict.Valid ∷ []) 1

-- nothing is missing in the completed letter
abbrev pub CompletedRow : Type 0
CompletedRow =
    NeedsWith sections_dtd (codes "doc") completed_letter
    (verdict.Valid ∷ verdict.Valid ∷ verdict.Valid ∷ verdict.Valid ∷ verdict.Valid ∷
    verdict.Valid ∷ verdict.Valid ∷ verdict.Valid ∷ verdict.Valid ∷ []) 0

-- ANY allows the word of <r><a/></r>, but its a isn't productive
abbrev pub AnyRow : Type 0
AnyRow =
    IsImpossibleAt any_endless_dtd (codes "r") (tag (codes "r") (tag (codes "a") [] ∷ []))
    (0 ∷ []) ×
    IsOwnValid {M = Unit} any_endless_dtd (Some 0) (forest_of (tag (codes "a") [] ∷ []))

-- the numbers of some parts
abbrev pub NumbersRow : Type 0
NumbersRow =
    (length (numbered_models sections_dtd.models) ≡ 21) ×
    (first_part sections_dtd 2 ≡ 4) ×
    (first_part sections_dtd 8 ≡ 18) ×
    (part_at sections_dtd 6 ≡ Some (name 3)) ×
    (part_at sections_dtd 12 ≡ Some (name 6)) ×
    (rest_at sections_dtd 7 ≡
    Some (part (star (choice (part (name 4) (part (name 7) no_parts)))) no_parts)) ×
    (rest_at sections_dtd 8 ≡ None)
