-- Which columns mention a column over the same span.
use Rattle.std.specs.Prelude.{List, Some, [], length, slice_get, slice_index_or, suc, ℕ, ◌<◌, ◌≡◌}
use Rattle.std.specs.Prelude.{◌≤◌, ◌∷◌}
use Rattle.pv_layout.specs.ColumnRules.{IsOneOf}
use Rattle.pv_layout.specs.Forms.{PlainForm, form_at, of_element, of_none, of_nothing, of_one, of_opt}
use Rattle.pv_layout.specs.Forms.{of_plus, of_star, of_two}
use Rattle.pv_layout.specs.declared.mentions.Mentions.{Mentions}

-- the columns that are mentioned where this stands
abbrev pub columns_mentioned : PlainForm → List ℕ
columns_mentioned of_none = []
columns_mentioned (of_element x d) = d ∷ []
columns_mentioned of_nothing = []
columns_mentioned (of_one ds) = ds
columns_mentioned (of_opt d) = d ∷ []
columns_mentioned (of_star d texts) = d ∷ []
columns_mentioned (of_plus d) = d ∷ []
columns_mentioned (of_two d e) = d ∷ e ∷ []

-- the first place of the columns that mention this one
abbrev pub start_of : Mentions → ℕ → ℕ
start_of m d = slice_index_or m.starts.items d (length m.above.items)

-- it is told that column c mentions column d
abbrev pub IsMentionTold : Mentions → ℕ → ℕ → Type 0
IsMentionTold m d c = (p : ℕ) × (start_of m d ≤ p) × (p < start_of m (suc d)) ×
    (slice_get m.above.items p ≡ Some c)

-- of each column that mentions one of the first n, this is told
abbrev pub AreToldAll : List PlainForm → ℕ → Mentions → Type 0
AreToldAll f n m = (c d : ℕ) → IsOneOf d (columns_mentioned (form_at f c)) → d < n →
    IsMentionTold m d c

-- where anything is told, it is told of each column that mentions another
abbrev pub AreTold : List PlainForm → Mentions → Type 0
AreTold f m = 0 < length m.above.items → AreToldAll f (length f) m
