-- The members of a group that were read, and those that are still to come.
use Rattle.std.proofs.Common.{◌≡◌, ℕ, zero, suc, ◌<◌, List, [], ◌∷◌, ◌++◌, length, codes, Option, Some, None, refl, sym, ap, ◌∙◌, arith}
use Rattle.pv_chars.specs.Scan.{◌>>=◌, after_space, after_bytes}
use Rattle.pv_dtd.specs.Items.{NamedPart, NamedParts, no_parts, part, named_parts_of}
use Rattle.pv_dtd.specs.PartReading.{Reader, group_of, group_from, others_at, more_at}

-- these members, and then the others
abbrev pub onto : List NamedPart → NamedParts → NamedParts
onto [] others = others
onto (p ∷ ps) others = part p (onto ps others)

-- the group of these members and the others
abbrev pub group_onto : ℕ → List NamedPart → Option (NamedParts × List ℕ) → Option (NamedPart × List ℕ)
group_onto separator members others = others >>= λ more. Some (group_of separator (onto members more.0), more.1)

-- the members so far and what is read after them are the group of the first member and what is read after it
pub record IsGroupSoFar (particle : Reader NamedPart) (separator : ℕ) (first : NamedPart) (behind : List ℕ) (members : List NamedPart) (rest : List ℕ) : Type 0 where
  pub steps : ℕ
  pub enough : length rest < suc steps
  pub same : group_onto separator members (others_at particle separator (suc steps) rest) ≡ group_from separator first (others_at particle separator (suc (length behind)) behind)

onto-none : (members : List NamedPart) → onto members no_parts ≡ named_parts_of members
onto-none [] = refl
onto-none (p ∷ ps) = ap (part p) (onto-none ps)

onto-push : (members : List NamedPart) (p : NamedPart) (others : NamedParts) → onto (members ++ p ∷ []) others ≡ onto members (part p others)
onto-push [] p others = refl
onto-push (q ∷ qs) p others = ap (part q) (onto-push qs p others)

onto_push : (separator : ℕ) (members : List NamedPart) (p : NamedPart) (others : Option (NamedParts
    × List ℕ)) → group_onto separator (members ++ p ∷ []) others ≡ group_onto separator members
    (others >>= λ more. Some (part p more.0, more.1))
onto_push separator members p None = refl
onto_push separator members p (Some more) = ap (λ ps. Some (group_of separator ps, more.1)) (onto-push members p more.0)

module _ (particle : Reader NamedPart) (separator : ℕ) (first : NamedPart) (behind : List ℕ) where
  pub so_far_first : IsGroupSoFar particle separator first behind (first ∷ []) behind
  so_far_first = record { steps = length behind; enough = omega arith; same = refl }

  abbrev the_group : Option (NamedPart × List ℕ)
  the_group = group_from separator first (others_at particle separator (suc (length behind)) behind)

  more_steps : (members : List NamedPart) (rest : List ℕ) (steps : ℕ) → length rest < steps →
      group_onto separator members (others_at particle separator steps rest) ≡ the_group →
      IsGroupSoFar particle separator first behind members rest
  more_steps members rest zero few same = absurd (omega arith)
  more_steps members rest (suc steps) few same = record { steps = steps; enough = few; same = same }

  module _ (members : List NamedPart) (rest place : List ℕ) (so_far : IsGroupSoFar particle separator first behind members rest) (at : place ≡ after_space rest) where
    pub closes : (after : List ℕ) → Some after ≡ after_bytes (codes ")") place → (p : NamedPart) → p ≡ group_of separator (named_parts_of members) → Some (p, after) ≡ the_group
    unfolding others_at
    closes after close p is = sym (sym so_far.same ∙ rw (← at, ← close) (ap (λ q. Some (q, after)) (ap (group_of separator) (onto-none members) ∙ sym is)))

    module _ (unclosed : None ≡ after_bytes (codes ")") place) where
      pub no_separator : None ≡ after_bytes (separator ∷ []) place → None ≡ the_group
      unfolding others_at more_at
      no_separator none = sym (sym so_far.same ∙ rw (← at, ← unclosed, ← none) refl)

      module _ (after : List ℕ) (next : Some after ≡ after_bytes (separator ∷ []) place) (inner : List ℕ) (inner_at : inner ≡ after_space after) where
        pub no_member : None ≡ particle inner → None ≡ the_group
        unfolding others_at more_at
        no_member none = sym (sym so_far.same ∙ rw (← at, ← unclosed, ← next, ← inner_at, ← none) refl)

        step : (p : NamedPart) (rest' : List ℕ) → Some (p, rest') ≡ particle inner →
            others_at particle separator (suc so_far.steps) rest
            ≡ (others_at particle separator so_far.steps rest' >>= λ more. Some (part p more.0, more.1))
        unfolding others_at more_at
        step p rest' read = rw (← at, ← unclosed, ← next, ← inner_at, ← read) refl

        pub so_far_more : (p : NamedPart) (rest' : List ℕ) → Some (p, rest') ≡ particle inner → length rest' < length rest → IsGroupSoFar particle separator first behind (members ++ p ∷ []) rest'
        so_far_more p rest' read shorter =
            let few : length rest' < so_far.steps = omega (arith, so_far.enough) in
            more_steps (members ++ p ∷ []) rest' so_far.steps few
            (onto_push separator members p (others_at particle separator so_far.steps rest') ∙ ap (group_onto separator members) (sym (step p rest' read)) ∙ so_far.same)
