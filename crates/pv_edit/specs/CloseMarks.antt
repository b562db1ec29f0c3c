-- Texts that stand side by side, searched from the left for `]]>`.
use Rattle.std.specs.Prelude.{◌≡◌, ◌++◌, ℕ, Bool, true, false, ◌&&◌, ◌==◌, List, [], ◌∷◌, codes}
use Rattle.std.specs.Prelude.{Option, Some, None, option_and_then, if◌then◌else◌}
use Rattle.std.specs.Str.{bytes_eq}
use Rattle.pv_tree.specs.Plain.{Tree, element, text_node, cdata_node, misc_node}
use Rattle.pv_edit.specs.declared.close_marks.Brackets.{Brackets}
use Rattle.pv_edit.specs.declared.close_marks.Brackets.TheVariants.{Zero, One, Two}

-- one more `]`
abbrev pub one_more : Brackets → Brackets
one_more Zero = One
one_more One = Two
one_more Two = Two

abbrev pub are_two : Brackets → Bool
are_two Zero = false
are_two One = false
are_two Two = true

-- what stands at the end after one more unit, where that is a `]`, and where it is a `>`; none
-- where that ends a `]]>`
abbrev pub behind : Brackets → Bool → Bool → Option Brackets
behind b is_bracket is_angle =
    if is_bracket then Some (one_more b) else (if is_angle && are_two b then None else Some Zero)

abbrev pub after_unit : Brackets → List ℕ → Option Brackets
after_unit b unit = behind b (bytes_eq unit (codes "]")) (bytes_eq unit (codes ">"))

abbrev pub after_byte : Brackets → ℕ → Option Brackets
after_byte b byte = behind b (byte == 93) (byte == 62)

abbrev pub search_units : Brackets → List (List ℕ) → Option Brackets
search_units b [] = Some b
search_units b (unit ∷ units) = option_and_then (λ c. search_units c units) (after_unit b unit)

abbrev pub search_tree : {M : Type 0} → Brackets → Tree M → Option Brackets
search_tree b (element x attrs ending kids mark) = Some Zero
search_tree b (text_node units) = search_units b units
search_tree b (cdata_node bytes) = Some Zero
search_tree b (misc_node bytes) = Some Zero

abbrev pub search_trees : {M : Type 0} → Brackets → List (Tree M) → Option Brackets
search_trees b [] = Some b
search_trees b (t ∷ ts) = option_and_then (λ c. search_trees c ts) (search_tree b t)

-- three parts of a list, one after the other
abbrev pub search_parts : {M : Type 0} → List (Tree M) → List (Tree M) → List (Tree M) →
    Option Brackets
search_parts front middle back =
    option_and_then (λ b. option_and_then (λ c. search_trees c back) (search_trees b middle))
    (search_trees Zero front)

-- some nodes, searched up to the first one that is no text
abbrev pub search_run : {M : Type 0} → Brackets → List (Tree M) → Option Brackets
search_run b [] = Some b
search_run b (element x attrs ending kids mark ∷ ts) = Some Zero
search_run b (text_node units ∷ ts) = option_and_then (λ c. search_run c ts) (search_units b units)
search_run b (cdata_node bytes ∷ ts) = Some Zero
search_run b (misc_node bytes ∷ ts) = Some Zero

-- a list ends by a run: nothing that stands before it counts in a search
pub record EndsBy {M : Type 0} (ts run : List (Tree M)) : Type 0 where
  pub front : List (Tree M)
  pub whole : ts ≡ front ++ run
  pub stops : (b : Brackets) → search_trees Zero front ≡ Some b → b ≡ Zero

-- a run, what stands after it, and the run at the front of what stands after that
abbrev pub search_near : {M : Type 0} → List (Tree M) → List (Tree M) → List (Tree M) →
    Option Brackets
search_near run middle back =
    option_and_then (λ b. option_and_then (λ c. search_run c back) (search_trees b middle))
    (search_trees Zero run)

-- the search of three parts needs no more than the last run of the first
pub record IsNear {M : Type 0} (front middle back : List (Tree M)) (result : Option Brackets) :
    Type 0 where
  pub run : List (Tree M)
  pub ends : EndsBy front run
  pub is : result ≡ search_near run middle back

-- the bytes of a text, searched
abbrev pub search_bytes : Brackets → List ℕ → Option Brackets
search_bytes b [] = Some b
search_bytes b (byte ∷ bytes) = option_and_then (λ c. search_bytes c bytes) (after_byte b byte)
