-- The pieces of lists, which are put in among the nodes of a document.
use Rattle.std.specs.Prelude.{Bool, List, [], false, true, ℕ, ◌∷◌, ◌≡◌}
use Rattle.pv_tree.specs.Heads.{has_token, head_of}
use Rattle.pv_tree.specs.Plain.{Tree}

-- the node of the next token, which stays as it is; the start tag, and the end tag, of a new
-- element of a name
pub data PlainPiece : Type 0 where
  kept : PlainPiece
  start : ℕ → PlainPiece
  finish : ℕ → PlainPiece

-- no tag comes next
abbrev pub AwaitsNode : List PlainPiece → Type 0
AwaitsNode [] = Unit {0}
AwaitsNode (kept ∷ ps) = Unit {0}
AwaitsNode (start y ∷ ps) = ⊥
AwaitsNode (finish y ∷ ps) = ⊥

-- whether the node is a token of its list's word
abbrev pub is_token : {M : Type 0} → Tree M → Bool
is_token t = has_token (head_of t)

-- the pieces after the first
abbrev pub others_of : List PlainPiece → List PlainPiece
others_of [] = []
others_of (p ∷ ps) = ps

-- the pieces after a node that is a token, or isn't
abbrev pub after_node : Bool → List PlainPiece → List PlainPiece
after_node true ps = others_of ps
after_node false ps = ps

-- the pieces of the next list, none where no list is left, and those of the lists after it
abbrev pub TakesNext : List (List PlainPiece) → List PlainPiece → List (List PlainPiece) → Type 0
TakesNext [] ps rest = (ps ≡ []) × (rest ≡ [])
TakesNext (q ∷ qs) ps rest = (ps ≡ q) × (rest ≡ qs)
