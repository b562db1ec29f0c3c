-- What numbers in place of names leave as it is.
use Rattle.std.proofs.Common.{◌≡◌, ◌≤◌, ℕ, suc, List, [], ◌∷◌, map, true, false, refl, sym, ap, arith}
use Rattle.std.proofs.lemmas.Bool.{le-leb}
use Rattle.std.proofs.lemmas.List.{length-map, map-append}
use Rattle.pv_dtd.specs.Plain.{parts_in, parts_in_all, parts_in_model, parts_in_models, names_in, names_in_all, names_in_model, mentions}
use Rattle.pv_dtd.specs.Facts.{has_operator, members, is_formed_part, are_formed_parts, nesting, nesting_all}
use Rattle.pv_dtd.specs.Items.{NamedPart, name, seq, choice, opt, star, plus, NamedParts, no_parts, part, NamedModel, empty, any, mixed, children}
use Rattle.pv_dtd.specs.Items.{spelled_in, spelled_in_all, spelled_in_model, mentioned_in, particles_in, particles_in_all, parts_of_model}
use Rattle.pv_dtd.specs.Items.{parts_of_models}
use Rattle.pv_dtd.specs.Spelling.{IsUnrepeated, member_count, nesting_of, nesting_of_all, SpellsPart, SpellsGroup, SpellsOthers}
use Rattle.pv_dtd.specs.Numbering.{with_numbers, all_with_numbers, model_with_numbers}

-- numbers for names leave the number of parts
mutual
  nodes_numbered : (f : List ℕ → ℕ) (p : NamedPart) → parts_in (with_numbers f p) ≡ particles_in p
  nodes_numbered f (name n) = refl
  nodes_numbered f (seq ps) = ap suc (all_nodes_numbered f ps)
  nodes_numbered f (choice ps) = ap suc (all_nodes_numbered f ps)
  nodes_numbered f (opt p) = ap suc (nodes_numbered f p)
  nodes_numbered f (star p) = ap suc (nodes_numbered f p)
  nodes_numbered f (plus p) = ap suc (nodes_numbered f p)

  all_nodes_numbered : (f : List ℕ → ℕ) (ps : NamedParts) → parts_in_all (all_with_numbers f ps) ≡ particles_in_all ps
  all_nodes_numbered f no_parts = refl
  all_nodes_numbered f (part p ps) = rw (nodes_numbered f p, all_nodes_numbered f ps) refl

model_parts_numbered : (f : List ℕ → ℕ) (m : NamedModel) → parts_in_model (model_with_numbers f m) ≡ parts_of_model m
model_parts_numbered f empty = refl
model_parts_numbered f any = refl
model_parts_numbered f (mixed names) = length-map names f
model_parts_numbered f (children p) = nodes_numbered f p

pub parts_numbered : (f : List ℕ → ℕ) (ms : List NamedModel) → parts_in_models (map (model_with_numbers f) ms) ≡ parts_of_models ms
parts_numbered f [] = refl
parts_numbered f (m ∷ ms) = rw (model_parts_numbered f m, parts_numbered f ms) refl

-- and the names that models mention
mutual
  mentioned_numbered : (f : List ℕ → ℕ) (p : NamedPart) → names_in (with_numbers f p) ≡ map f (spelled_in p)
  mentioned_numbered f (name n) = refl
  mentioned_numbered f (seq ps) = all_mentioned_numbered f ps
  mentioned_numbered f (choice ps) = all_mentioned_numbered f ps
  mentioned_numbered f (opt p) = mentioned_numbered f p
  mentioned_numbered f (star p) = mentioned_numbered f p
  mentioned_numbered f (plus p) = mentioned_numbered f p

  all_mentioned_numbered : (f : List ℕ → ℕ) (ps : NamedParts) → names_in_all (all_with_numbers f ps) ≡ map f (spelled_in_all ps)
  all_mentioned_numbered f no_parts = refl
  all_mentioned_numbered f (part p ps) = rw (mentioned_numbered f p, all_mentioned_numbered f ps) (sym (map-append f (spelled_in p) (spelled_in_all ps)))

model_mentioned_numbered : (f : List ℕ → ℕ) (m : NamedModel) → names_in_model (model_with_numbers f m) ≡ map f (spelled_in_model m)
model_mentioned_numbered f empty = refl
model_mentioned_numbered f any = refl
model_mentioned_numbered f (mixed names) = refl
model_mentioned_numbered f (children p) = mentioned_numbered f p

pub mentions_numbered : (f : List ℕ → ℕ) (ms : List NamedModel) → mentions (map (model_with_numbers f) ms) ≡ map f (mentioned_in ms)
mentions_numbered f [] = refl
mentions_numbered f (m ∷ ms) = rw (model_mentioned_numbered f m, mentions_numbered f ms) (sym (map-append f (spelled_in_model m) (mentioned_in ms)))

-- how groups are formed
members_numbered : (f : List ℕ → ℕ) (ps : NamedParts) → members (all_with_numbers f ps) ≡ member_count ps
members_numbered f no_parts = refl
members_numbered f (part p ps) = ap suc (members_numbered f ps)

bare_numbered : (f : List ℕ → ℕ) (p : NamedPart) → IsUnrepeated p → has_operator (with_numbers f p) ≡ false
bare_numbered f (name n) b = refl
bare_numbered f (seq ps) b = refl
bare_numbered f (choice ps) b = refl
bare_numbered f (opt p) b = absurd b
bare_numbered f (star p) b = absurd b
bare_numbered f (plus p) b = absurd b

mutual
  pub nesting_numbered : (f : List ℕ → ℕ) (p : NamedPart) → nesting (with_numbers f p) ≡ nesting_of p
  nesting_numbered f (name n) = refl
  nesting_numbered f (seq ps) = ap suc (all_nesting_numbered f ps)
  nesting_numbered f (choice ps) = ap suc (all_nesting_numbered f ps)
  nesting_numbered f (opt p) = nesting_numbered f p
  nesting_numbered f (star p) = nesting_numbered f p
  nesting_numbered f (plus p) = nesting_numbered f p

  all_nesting_numbered : (f : List ℕ → ℕ) (ps : NamedParts) → nesting_all (all_with_numbers f ps) ≡ nesting_of_all ps
  all_nesting_numbered f no_parts = refl
  all_nesting_numbered f (part p ps) = rw (nesting_numbered f p, all_nesting_numbered f ps) refl

module _ (f : List ℕ → ℕ) where
  mutual
    pub part_formed : (p : NamedPart) (text : List ℕ) → SpellsPart p text → is_formed_part (with_numbers f p) ≡ true
    part_formed (name n) text s = refl
    part_formed (seq ps) text s = let g = group_formed _ ps text s in rw (members_numbered f ps, le-leb 1 (member_count ps) g.0, g.1) refl
    part_formed (choice ps) text s = let g = group_formed _ ps text s.1 in rw (members_numbered f ps, le-leb 2 (member_count ps) s.0, g.1) refl
    part_formed (opt p) text s = rw (bare_numbered f p s.1, part_formed p s.0 s.2) refl
    part_formed (star p) text s = rw (bare_numbered f p s.1, part_formed p s.0 s.2) refl
    part_formed (plus p) text s = rw (bare_numbered f p s.1, part_formed p s.0 s.2) refl

    group_formed : (separator : List ℕ) (ps : NamedParts) (text : List ℕ) → SpellsGroup separator ps text → (1 ≤ member_count ps) × (are_formed_parts (all_with_numbers f ps) ≡ true)
    group_formed separator no_parts text s = absurd s
    group_formed separator (part p ps) text s = (omega arith, rw (part_formed p s.1 s.5, others_formed separator ps s.2 s.6) refl)

    others_formed : (separator : List ℕ) (ps : NamedParts) (text : List ℕ) → SpellsOthers separator ps text → are_formed_parts (all_with_numbers f ps) ≡ true
    others_formed separator no_parts text s = refl
    others_formed separator (part p ps) text s = rw (part_formed p s.2 s.6, others_formed separator ps s.3 s.7) refl
