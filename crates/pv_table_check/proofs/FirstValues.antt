-- The first of some entries that has a goal.
use Rattle.std.proofs.Common.{Bool, List, arith, drop, drop-cons, false, get_or, length, refl, suc}
use Rattle.std.proofs.Common.{true, ℕ, ◌+◌, ◌<◌, ◌∙◌, ◌∷◌, ◌≡◌}
use Rattle.pv_rules.specs.Rules.{Goal}
use Rattle.pv_tables.specs.TableLaws.{GoalsAreTold}
use Rattle.pv_tables.specs.Values.{are_same_goals, goal_of, listed_value}
use Rattle.pv_tables.specs.declared.tables.Entry.{Entry}

module _ (x : Goal) where
  -- the entries from this place on give the goal the value that all give it
  pub record IsAhead (es : List Entry) (i : ℕ) : Type 0 where
    pub same : listed_value es x ≡ listed_value (drop i es) x

  head_value : GoalsAreTold → (e : Entry) (es : List Entry) → goal_of e ≡ x → listed_value (e ∷ es) x ≡ e.value
  head_value told e es g = let t : are_same_goals (goal_of e) x ≡ true = (told (goal_of e) x).1 g in rw t refl

  other_value : GoalsAreTold → (e : Entry) (es : List Entry) (b : Bool) → are_same_goals (goal_of e) x ≡ b → (goal_of e ≡ x → ⊥) → listed_value (e ∷ es) x ≡ listed_value es x
  other_value told e es true t n = absurd (n ((told (goal_of e) x).0 t))
  other_value told e es false t n = rw t refl

  module _ (es : List Entry) (i : ℕ) (a : IsAhead es i) where
    module _ (few : i < length es) (d : Entry) where
      split : drop i es ≡ get_or es i d ∷ drop (suc i) es
      split = drop-cons es i d few

      whole : listed_value es x ≡ listed_value (get_or es i d ∷ drop (suc i) es) x
      whole = let s = a.same in rw split at s

      pub value_here : GoalsAreTold → goal_of (get_or es i d) ≡ x → listed_value es x ≡ (get_or es i d).value
      value_here told g = whole ∙ head_value told (get_or es i d) (drop (suc i) es) g

      pub one_more : GoalsAreTold → (goal_of (get_or es i d) ≡ x → ⊥) → IsAhead es (i + 1)
      one_more told n = let next : i + 1 ≡ suc i = omega arith in
          record { same = rw next (whole ∙ other_value told (get_or es i d) (drop (suc i) es) (are_same_goals (goal_of (get_or es i d)) x) refl n) }
