-- The rules of the missing grammar: from what a site of the grammar may be put together over a span
-- of a word, and at what cost.
use Rattle.std.specs.Prelude.{List, Some, [], length, slice_get, suc, ℕ, ◌+◌, ◌<◌, ◌∷◌, ◌≡◌, ◌≤◌}
use Rattle.pv_model.specs.Plain.{PlainPart, PlainParts, PlainToken, any, children, choice, empty}
use Rattle.pv_model.specs.Plain.{mixed, name, named, no_parts, opt, part, plus, seq, star, text}
use Rattle.pv_dtd.specs.Plain.{IsDeclared, PlainDtd, model_of, parts_in}
use Rattle.pv_rules.specs.Numbering.{IsMemberAt, first_part, part_at, rest_at}
use Rattle.pv_rules.specs.Sites.{PlainSite, content_site, name_site, part_site, rest_site}

-- a site over the tokens from one number up to another, that one left out
pub record Goal : Type 0 where
  pub site : PlainSite
  pub from : ℕ
  pub to : ℕ

-- a site over the tokens from one number up to another
abbrev pub over : PlainSite → ℕ → ℕ → Goal
over s i j = record { site = s; from = i; to = j }

abbrev pub IsSpan : List PlainToken → ℕ → ℕ → Type 0
IsSpan w i j = (i ≤ j) × (j ≤ length w)

-- the names in the word are names of the DTD
abbrev pub IsKnownWord : PlainDtd → List PlainToken → Type 0
IsKnownWord g w = (k y : ℕ) → slice_get w k ≡ Some (named y) → y < length g.names

-- the left side, its cost, and the right sides
pub data Rule (g : PlainDtd) (w : List PlainToken) : Goal → ℕ → List Goal → Type 0 where
  kept : (x i : ℕ) → slice_get w i ≡ Some (named x) → Rule g w (over (name_site x) i (suc i)) 0 []
  missing : (x i j : ℕ) → IsSpan w i j →
      Rule g w (over (name_site x) i j) 1 (over (content_site x) i j ∷ [])
  empty_none : (x i : ℕ) → i ≤ length w → model_of g x ≡ Some empty →
      Rule g w (over (content_site x) i i) 0 []
  mixed_none : (x i : ℕ) (ys : List ℕ) → i ≤ length w → model_of g x ≡ Some (mixed ys) →
      Rule g w (over (content_site x) i i) 0 []
  mixed_text : (x i j : ℕ) (ys : List ℕ) → i < j → j ≤ length w → model_of g x ≡ Some (mixed ys) →
      slice_get w i ≡ Some text →
      Rule g w (over (content_site x) i j) 0 (over (content_site x) (suc i) j ∷ [])
  mixed_name : (x e i k j : ℕ) (ys : List ℕ) → i < k → k ≤ j → j ≤ length w →
      model_of g x ≡ Some (mixed ys) → e < length ys →
      Rule g w (over (content_site x) i j) 0
      (over (part_site (first_part g x + e)) i k ∷ over (content_site x) k j ∷ [])
  any_none : (x i : ℕ) → i ≤ length w → model_of g x ≡ Some any →
      Rule g w (over (content_site x) i i) 0 []
  any_text : (x i j : ℕ) → i < j → j ≤ length w → model_of g x ≡ Some any →
      slice_get w i ≡ Some text →
      Rule g w (over (content_site x) i j) 0 (over (content_site x) (suc i) j ∷ [])
  any_name : (x y i k j : ℕ) → i < k → k ≤ j → j ≤ length w → model_of g x ≡ Some any →
      IsDeclared g y →
      Rule g w (over (content_site x) i j) 0
      (over (name_site y) i k ∷ over (content_site x) k j ∷ [])
  children_part : (x i j : ℕ) (p : PlainPart) → IsSpan w i j → model_of g x ≡ Some (children p) →
      Rule g w (over (content_site x) i j) 0 (over (part_site (first_part g x)) i j ∷ [])
  part_name : (q y i j : ℕ) → IsSpan w i j → part_at g q ≡ Some (name y) →
      Rule g w (over (part_site q) i j) 0 (over (name_site y) i j ∷ [])
  part_seq : (q i j : ℕ) (p : PlainPart) (ps : PlainParts) → IsSpan w i j →
      part_at g q ≡ Some (seq (part p ps)) →
      Rule g w (over (part_site q) i j) 0 (over (rest_site (suc q)) i j ∷ [])
  part_choice : (q r i j : ℕ) (p : PlainPart) (ps : PlainParts) → IsSpan w i j →
      part_at g q ≡ Some (choice ps) → IsMemberAt p r (suc q) ps →
      Rule g w (over (part_site q) i j) 0 (over (part_site r) i j ∷ [])
  opt_none : (q i : ℕ) (p : PlainPart) → i ≤ length w → part_at g q ≡ Some (opt p) →
      Rule g w (over (part_site q) i i) 0 []
  opt_one : (q i j : ℕ) (p : PlainPart) → IsSpan w i j → part_at g q ≡ Some (opt p) →
      Rule g w (over (part_site q) i j) 0 (over (part_site (suc q)) i j ∷ [])
  star_none : (q i : ℕ) (p : PlainPart) → i ≤ length w → part_at g q ≡ Some (star p) →
      Rule g w (over (part_site q) i i) 0 []
  star_more : (q i k j : ℕ) (p : PlainPart) → i < k → k ≤ j → j ≤ length w →
      part_at g q ≡ Some (star p) →
      Rule g w (over (part_site q) i j) 0
      (over (part_site (suc q)) i k ∷ over (part_site q) k j ∷ [])
  plus_one : (q i j : ℕ) (p : PlainPart) → IsSpan w i j → part_at g q ≡ Some (plus p) →
      Rule g w (over (part_site q) i j) 0 (over (part_site (suc q)) i j ∷ [])
  plus_more : (q i k j : ℕ) (p : PlainPart) → i < k → k < j → j ≤ length w →
      part_at g q ≡ Some (plus p) →
      Rule g w (over (part_site q) i j) 0
      (over (part_site (suc q)) i k ∷ over (part_site q) k j ∷ [])
  rest_last : (q i j : ℕ) (p : PlainPart) → IsSpan w i j → rest_at g q ≡ Some (part p no_parts) →
      Rule g w (over (rest_site q) i j) 0 (over (part_site q) i j ∷ [])
  rest_then : (q i k j : ℕ) (p r : PlainPart) (ps : PlainParts) → i ≤ k → k ≤ j → j ≤ length w →
      rest_at g q ≡ Some (part p (part r ps)) →
      Rule g w (over (rest_site q) i j) 0
      (over (part_site q) i k ∷ over (rest_site (q + parts_in p)) k j ∷ [])
