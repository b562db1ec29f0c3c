-- Spans of a chart are spans of its word.
use Rattle.std.proofs.Common.{List, arith, length, map, ℕ, ◌≡◌, ◌≤◌}
use Rattle.std.proofs.lemmas.List.{length-map}
use Rattle.pv_model.specs.PlainForms.{plain_token}
use Rattle.pv_model.specs.declared.models.Token.{Token}
use Rattle.pv_rules.specs.Rules.{IsSpan}

pub spanned : (word : List Token) (n i j : ℕ) → (i ≤ j) × (j ≤ n) → n ≡ length word →
    IsSpan (map plain_token word) i j
spanned word n i j s e = (s.0, let l = s.1 in simp length-map (omega arith))
