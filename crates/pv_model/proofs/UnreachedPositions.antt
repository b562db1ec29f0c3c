-- Before its first name no position of a particle is reached, and nothing continues.
use Rattle.std.proofs.Common.{◌≡◌, ℕ, Bool, true, false, inl, inr, List, [], refl, sym, ◌∙◌}
use Rattle.std.proofs.lemmas.Bool.{or_parts}
use Rattle.pv_model.specs.Plain.{PlainPart, name, seq, choice, opt, star, plus, PlainParts, no_parts, part}
use Rattle.pv_model.specs.Positions.{unreached_positions, unreached_positions_all, any_reached}
use Rattle.pv_model.proofs.ReachedPositions.{Positions, AllPositions, Continues, ContinuesInOrder, ContinuesSome, ends, unreached, all_unreached}
use Rattle.pv_model.proofs.EmptyWords.{ends-means}
use Rattle.pv_model.proofs.Progress.{any_reached-append}
use Rattle.pv_model.proofs.PositionLists.{list_of, list_of_all}

mutual
  pub nothing_continues : (p : PlainPart) (w : List ℕ) → Continues p (unreached p) w → ⊥
  nothing_continues (name y) w c = let none = c.0 in absurd cc
  nothing_continues (seq ps) w c = nothing_in_order ps w c
  nothing_continues (choice ps) w c = nothing_of_some ps w c
  nothing_continues (opt p) w c = nothing_continues p w c
  nothing_continues (star p) w c = nothing_continues p c.0 c.3
  nothing_continues (plus p) w c = nothing_continues p c.0 c.3

  nothing_in_order : (ps : PlainParts) (w : List ℕ) → ContinuesInOrder ps (all_unreached ps) w → ⊥
  nothing_in_order no_parts w c = c
  nothing_in_order (part p ps) w c = elim c [ inl one ↦ nothing_continues p one.0 one.3 | inr rest ↦ nothing_in_order ps w rest ]

  nothing_of_some : (ps : PlainParts) (w : List ℕ) → ContinuesSome ps (all_unreached ps) w → ⊥
  nothing_of_some no_parts w c = c
  nothing_of_some (part p ps) w c = elim c [ inl one ↦ nothing_continues p w one | inr rest ↦ nothing_of_some ps w rest ]

never_ends : (p : PlainPart) (b : Bool) → ends p (unreached p) ≡ b → b ≡ false
never_ends p true e = absurd (nothing_continues p [] ((ends-means p (unreached p)).0 e))
never_ends p false e = refl

mutual
  pub unreached-list : (p : PlainPart) → list_of p (unreached p) ≡ unreached_positions p
  unreached-list (name y) = refl
  unreached-list (seq ps) = all_unreached-list ps
  unreached-list (choice ps) = all_unreached-list ps
  unreached-list (opt p) = unreached-list p
  unreached-list (star p) = rw (never_ends p (ends p (unreached p)) refl, unreached-list p)
  unreached-list (plus p) = rw (never_ends p (ends p (unreached p)) refl, unreached-list p)

  all_unreached-list : (ps : PlainParts) → list_of_all ps (all_unreached ps) ≡ unreached_positions_all ps
  all_unreached-list no_parts = refl
  all_unreached-list (part p ps) = rw (unreached-list p, all_unreached-list ps)

-- where no position is reached, nothing continues
mutual
  pub none_reached_continues : (p : PlainPart) (m : Positions p) (w : List ℕ) → any_reached (list_of p m) ≡ false → Continues p m w → ⊥
  none_reached_continues (name y) m w n c = let yes = c.0 in absurd cc
  none_reached_continues (seq ps) m w n c = none_reached_in_order ps m w n c
  none_reached_continues (choice ps) m w n c = none_reached_of_some ps m w n c
  none_reached_continues (opt p) m w n c = none_reached_continues p m w n c
  none_reached_continues (star p) m w n c = none_reached_continues p m c.0 (or_parts (any_reached (list_of p m)) (ends p m) n).0 c.3
  none_reached_continues (plus p) m w n c = none_reached_continues p m c.0 (or_parts (any_reached (list_of p m)) (ends p m) n).0 c.3

  none_reached_in_order : (ps : PlainParts) (m : AllPositions ps) (w : List ℕ) → any_reached (list_of_all ps m) ≡ false → ContinuesInOrder ps m w → ⊥
  none_reached_in_order no_parts m w n c = c
  none_reached_in_order (part p ps) m w n c =
      let both = or_parts (any_reached (list_of_all ps m.1)) (any_reached (list_of p m.0)) (sym (any_reached-append (list_of p m.0) (list_of_all ps m.1)) ∙ n) in
      elim c [ inl one ↦ none_reached_continues p m.0 one.0 both.1 one.3 | inr rest ↦ none_reached_in_order ps m.1 w both.0 rest ]

  none_reached_of_some : (ps : PlainParts) (m : AllPositions ps) (w : List ℕ) → any_reached (list_of_all ps m) ≡ false → ContinuesSome ps m w → ⊥
  none_reached_of_some no_parts m w n c = c
  none_reached_of_some (part p ps) m w n c =
      let both = or_parts (any_reached (list_of_all ps m.1)) (any_reached (list_of p m.0)) (sym (any_reached-append (list_of p m.0) (list_of_all ps m.1)) ∙ n) in
      elim c [ inl one ↦ none_reached_continues p m.0 w both.1 one | inr rest ↦ none_reached_of_some ps m.1 w both.0 rest ]
