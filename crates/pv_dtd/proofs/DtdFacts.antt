-- What the DTD of ruled items keeps.
use Rattle.std.proofs.Common.{◌≡◌, ◌≤◌, ◌<◌, ◌+◌, ◌-◌, ℕ, zero, suc, List, [], ◌∷◌, ◌++◌, length, map, Bool, true, Some, unwrap_or, refl, sym, ap}
use Rattle.std.proofs.Common.{◌∙◌, subst, length-append, Vec, Global, IsTrue, arith}
use Rattle.std.proofs.lemmas.Bool.{or_right, le-leb}
use Rattle.std.proofs.lemmas.List.{length-map, map-append}
use Rattle.std.proofs.lemmas.List.Folds.{list_all-append, list_any-append}
use Rattle.std.proofs.lemmas.Option.{slice_get-get_or}
use Rattle.std.specs.List.{list_all, list_any, slice_get, range_with_len}
use Rattle.std.specs.Prelude.{nat_eq, slice_index_or}
use Rattle.std.specs.Str.{bytes_eq}
use Rattle.pv_model.specs.declared.models.ContentModel.{ContentModel}
use Rattle.pv_model.specs.PlainForms.{plain_model}
use Rattle.pv_dtd.specs.Plain.{PlainDtd, place_of, parts_in_models, mentions}
use Rattle.pv_dtd.specs.Facts.{as_dtd, are_names, AreLegalNames, is_short_name, are_distinct, are_known, are_mentioned, nesting, is_formed_model, MAX_TYPES, MAX_PARTS, MAX_NESTING}
use Rattle.pv_dtd.specs.Items.{NamedPart, name, seq, choice, opt, star, plus, NamedParts, no_parts, part, NamedModel, empty, any, mixed, children}
use Rattle.pv_dtd.specs.Items.{DtdItem, text_declaration, element, skipped, comment, instruction, spelled_in, spelled_in_all, spelled_in_model}
use Rattle.pv_dtd.specs.Items.{mentioned_by, declared_by, declared_in, model_in, models_in, mentioned_in, particles_in, particles_in_all}
use Rattle.pv_dtd.specs.Items.{parts_of_model, parts_of_models}
use Rattle.pv_dtd.specs.Numbering.{with_numbers, model_with_numbers, number_among, each_once, names_of, dtd_of_items}
use Rattle.pv_dtd.proofs.NamesOnce.{distinct-once, once_all, once_one_of, once_fewer, once-distinct}
use Rattle.pv_dtd.proofs.NamesOnce.{with_names-once}
use Rattle.pv_dtd.proofs.DistinctNumbers.{apart_from_distinct}
use Rattle.pv_dtd.specs.SoFar.{IsSoundItem, AreSoundItems, AreRuled, IsOfItems}
use Rattle.pv_dtd.proofs.NumbersForNames.{mentions_numbered, nesting_numbered, part_formed, parts_numbered}
use Rattle.pv_dtd.proofs.NamesAmongOthers.{AreAmong, among-left, among-right, among_by, any_number}
use Rattle.pv_dtd.proofs.NamesAmongOthers.{distinct_numbered, known_all, once_has}
use Rattle.pv_dtd.proofs.NamesKept.{both_short, declared_legal, declared_short, legal-append, mentioned_legal, mentioned_more, mentioned_short, once_legal}

get_behind : (front names : List (List ℕ)) (i : ℕ) → slice_get (front ++ names) (length front + i) ≡ slice_get names i
get_behind [] names i = ap (slice_get names) (omega arith)
get_behind (n ∷ ns) names i = let next : length (n ∷ ns) + i ≡ suc (length ns + i) = omega arith in rw next (get_behind ns names i)

all_in_range : (p : ℕ → Bool) (n a : ℕ) → ((i : ℕ) → i < n → p (a + i) ≡ true) → list_all p (range_with_len a n) ≡ true
all_in_range p zero a each = refl
all_in_range p (suc n) a each =
    let first : p a ≡ true = ap p (omega arith) ∙ each 0 (omega arith) in
    rw first (all_in_range p n (a + 1) (λ i h. ap p (omega arith) ∙ each (suc i) (omega arith)))

-- models that are formed
module _ (names : List (List ℕ)) where
  model_formed : (n : List ℕ) (m : NamedModel) → IsSoundItem (element n m) → AreAmong (spelled_in_model m) names → is_formed_model (model_with_numbers (number_among names) m) ≡ true
  model_formed n empty s a = refl
  model_formed n any s a = refl
  model_formed n (mixed xs) s a = distinct_numbered names xs a s.differ
  model_formed n (children p) s a =
      let deep : nesting (with_numbers (number_among names) p) ≤ MAX_NESTING = rw (nesting_numbered (number_among names) p) s.shallow in
      rw (part_formed (number_among names) p s.spelled.spec s.spelled.is_spec.1, le-leb (nesting (with_numbers (number_among names) p)) MAX_NESTING deep) refl

  item_formed : (i : DtdItem) → IsSoundItem i → AreAmong (mentioned_by i) names → list_all is_formed_model (map (model_with_numbers (number_among names)) (model_in i)) ≡ true
  item_formed text_declaration s a = refl
  item_formed (element n m) s a = rw (model_formed n m s a) refl
  item_formed skipped s a = refl
  item_formed comment s a = refl
  item_formed instruction s a = refl

  items_formed : (items : List DtdItem) → AreSoundItems items →
      AreAmong (mentioned_in (models_in items)) names →
      list_all is_formed_model (map (model_with_numbers (number_among names)) (models_in items)) ≡ true
  items_formed [] s a = refl
  items_formed (i ∷ items) s a =
      let all : AreAmong (mentioned_by i ++ mentioned_in (models_in items)) names = rw (mentioned_more i items) at a in
      ap (list_all is_formed_model) (map-append (model_with_numbers (number_among names)) (model_in i) (models_in items))
      ∙ list_all-append is_formed_model (map (model_with_numbers (number_among names)) (model_in i)) (map (model_with_numbers (number_among names)) (models_in items))
      ∙ rw (item_formed i s.0 (among-left (mentioned_by i) _ names all), items_formed items s.1 (among-right (mentioned_by i) _ names all)) refl

one_each : (i : DtdItem) → length (model_in i) ≡ length (declared_by i)
one_each text_declaration = refl
one_each (element n model) = refl
one_each skipped = refl
one_each comment = refl
one_each instruction = refl

pub as_many : (items : List DtdItem) → length (models_in items) ≡ length (declared_in items)
as_many [] = refl
as_many (i ∷ items) = omega (arith, one_each i, as_many items, length-append (model_in i) (models_in items), length-append (declared_by i) (declared_in items))

-- a name that is mentioned is a part
mutual
  fewer_in : (p : NamedPart) → length (spelled_in p) ≤ particles_in p
  fewer_in (name n) = omega arith
  fewer_in (seq ps) = omega (arith, fewer_in_all ps)
  fewer_in (choice ps) = omega (arith, fewer_in_all ps)
  fewer_in (opt p) = omega (arith, fewer_in p)
  fewer_in (star p) = omega (arith, fewer_in p)
  fewer_in (plus p) = omega (arith, fewer_in p)

  fewer_in_all : (ps : NamedParts) → length (spelled_in_all ps) ≤ particles_in_all ps
  fewer_in_all no_parts = omega arith
  fewer_in_all (part p ps) = omega (arith, length-append (spelled_in p) (spelled_in_all ps), fewer_in p, fewer_in_all ps)

fewer_in_model : (m : NamedModel) → length (spelled_in_model m) ≤ parts_of_model m
fewer_in_model empty = omega arith
fewer_in_model any = omega arith
fewer_in_model (mixed names) = omega arith
fewer_in_model (children p) = fewer_in p

fewer_mentions : (models : List NamedModel) → length (mentioned_in models) ≤ parts_of_models models
fewer_mentions [] = omega arith
fewer_mentions (m ∷ ms) = omega (arith, length-append (spelled_in_model m) (mentioned_in ms), fewer_in_model m, fewer_mentions ms)

module _ (items : List DtdItem) (r : AreRuled items) where
  abbrev mentioned : List (List ℕ)
  mentioned = mentioned_in (models_in items)

  abbrev names : List (List ℕ)
  names = names_of items

  all_among : AreAmong mentioned names
  all_among = among_by mentioned (declared_in items ++ mentioned) names (λ x. once_has x
      (declared_in items ++ mentioned)) (λ x e. list_any-append (bytes_eq x) (declared_in items)
      mentioned ∙ or_right (list_any (bytes_eq x) (declared_in items)) (list_any (bytes_eq x) mentioned) e)

  pub distinct_kept : are_distinct names ≡ true
  distinct_kept = distinct-once (declared_in items ++ mentioned)

  pub short_kept : list_all is_short_name names ≡ true
  short_kept = once_all is_short_name (declared_in items ++ mentioned) [] (both_short (declared_in items) mentioned (declared_short items r.sound) (mentioned_short items r.sound))

  pub legal_kept : AreLegalNames names
  legal_kept = once_legal (declared_in items ++ mentioned) [] (legal-append (declared_in items) mentioned (declared_legal items r.sound) (mentioned_legal items r.sound))

  pub known_kept : IsTrue (are_known (dtd_of_items items))
  known_kept = rw (mentions_numbered (number_among names) (models_in items)) (known_all names mentioned all_among)

  pub formed_kept : IsTrue (list_all is_formed_model (dtd_of_items items).models)
  formed_kept = items_formed names items r.sound all_among

  names_split : names ≡ declared_in items ++ each_once (declared_in items) mentioned
  names_split = once-distinct (declared_in items) mentioned r.once ∙ with_names-once mentioned (declared_in items) (declared_in items) (λ x. refl)

  models_count : length (dtd_of_items items).models ≡ length (declared_in items)
  models_count = length-map (models_in items) (model_with_numbers (number_among names)) ∙ as_many items

  names_count : length names ≡ length (declared_in items) + length (each_once (declared_in items) mentioned)
  names_count = ap length names_split ∙ length-append (declared_in items) (each_once (declared_in items) mentioned)

  pub named_kept : length (dtd_of_items items).models ≤ length names
  named_kept = omega (arith, names_count, models_count)

  pub types_kept : length (dtd_of_items items).models ≤ MAX_TYPES
  types_kept = omega (arith, models_count, r.few_types)

  pub few_kept : length names ≤ MAX_TYPES + MAX_PARTS
  few_kept = omega (arith, names_count, r.few_types, once_fewer mentioned (declared_in items), fewer_mentions (models_in items), r.few_parts)

  mentioned_at : (i : ℕ) → i < length names - length (dtd_of_items items).models → list_any (nat_eq (length (dtd_of_items items).models + i)) (mentions (dtd_of_items items).models) ≡ true
  mentioned_at i h =
      let y = length (dtd_of_items items).models + i in
      let x = slice_index_or names y [] in
      let at : slice_get names y ≡ Some x = slice_get-get_or names y [] (omega arith) in
      let behind : slice_get (each_once (declared_in items) mentioned) i ≡ Some x =
      sym (get_behind (declared_in items) (each_once (declared_in items) mentioned) i)
      ∙ ap (λ n. slice_get (declared_in items ++ each_once (declared_in items) mentioned)
      (n + i)) (sym models_count) ∙ ap (λ ns. slice_get ns y) (sym names_split) ∙ at in
      let place : place_of names x ≡ Some y = apart_from_distinct names distinct_kept y x at in
      let number : number_among names x ≡ y = ap (λ o. unwrap_or o 0) place in
      ap (list_any (nat_eq y)) (mentions_numbered (number_among names) (models_in items)) ∙ any_number names x mentioned y number (once_one_of x mentioned (declared_in items) i behind)

  pub mentioned_kept : IsTrue (are_mentioned (dtd_of_items items))
  mentioned_kept = all_in_range (λ y. list_any (nat_eq y) (mentions (dtd_of_items items).models)) (length names - length (dtd_of_items items).models) (length (dtd_of_items items).models) mentioned_at

-- What is kept of the names and models that a DTD holds.
module _ (keys : List (Vec ℕ Global)) (models : List ContentModel) (of : IsOfItems (as_dtd keys models)) where
  keys_count : length (as_dtd keys models).names ≡ length keys
  keys_count = length-map keys (λ (v : Vec ℕ Global). v.items)

  held_count : length (as_dtd keys models).models ≡ length models
  held_count = length-map models plain_model

  names_are : (as_dtd keys models).names ≡ names_of of.0
  names_are = ap (λ (g : PlainDtd). g.names) of.2

  models_are : (as_dtd keys models).models ≡ (dtd_of_items of.0).models
  models_are = ap (λ (g : PlainDtd). g.models) of.2

  pub held_named : length models ≤ length keys
  held_named = omega (arith, named_kept of.0 of.1, keys_count, held_count, ap length names_are, ap length models_are)

  pub held_types : length models ≤ MAX_TYPES
  held_types = omega (arith, types_kept of.0 of.1, held_count, ap length models_are)

  pub held_few : length keys ≤ MAX_TYPES + MAX_PARTS
  held_few = omega (arith, few_kept of.0 of.1, keys_count, ap length names_are)

  pub held_names : IsTrue (are_names (as_dtd keys models).names)
  held_names = rw names_are (rw (short_kept of.0 of.1, distinct_kept of.0 of.1) refl)

  pub held_legal : AreLegalNames (as_dtd keys models).names
  held_legal = rw names_are (legal_kept of.0 of.1)

  pub held_known : IsTrue (are_known (as_dtd keys models))
  held_known = subst (λ (g : PlainDtd). IsTrue (are_known g)) (sym of.2) (known_kept of.0 of.1)

  pub held_mentioned : IsTrue (are_mentioned (as_dtd keys models))
  held_mentioned = subst (λ (g : PlainDtd). IsTrue (are_mentioned g)) (sym of.2) (mentioned_kept of.0 of.1)

  pub held_formed : IsTrue (list_all is_formed_model (as_dtd keys models).models)
  held_formed = rw models_are (formed_kept of.0 of.1)

  pub held_parts : parts_in_models (as_dtd keys models).models ≤ MAX_PARTS
  held_parts = omega (arith, ap parts_in_models models_are, parts_numbered (number_among (names_of of.0)) (models_in of.0), of.1.few_parts)

pub items_held : (keys : List (Vec ℕ Global)) (models : List ContentModel) (names : List (List ℕ)) →
    map (λ v. v.items) keys ≡ names →
    IsOfItems (record { names = names; models = map plain_model models }) → IsOfItems (as_dtd keys models)
items_held keys models names seen of = rw seen of
