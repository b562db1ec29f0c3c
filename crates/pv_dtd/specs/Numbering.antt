-- Names and their numbers.
use Rattle.std.specs.Prelude.{ℕ, List, [], ◌∷◌, ◌++◌, map, if◌then◌else◌, unwrap_or}
use Rattle.std.specs.List.{list_any}
use Rattle.std.specs.Str.{bytes_eq}
use Rattle.pv_model.specs.Plain as plain
use Rattle.pv_model.specs.Plain.{PlainPart, PlainParts, PlainModel}
use Rattle.pv_dtd.specs.Plain.{PlainDtd, place_of}
use Rattle.pv_dtd.specs.Items.{NamedPart, name, seq, choice, opt, star, plus, NamedParts, no_parts}
use Rattle.pv_dtd.specs.Items.{part, NamedModel, empty, any, mixed, children, DtdItem, declared_in}
use Rattle.pv_dtd.specs.Items.{models_in, mentioned_in}

-- a content particle with numbers for names
abbrev mutual
  pub with_numbers : (List ℕ → ℕ) → NamedPart → PlainPart
  with_numbers f (name n) = plain.name (f n)
  with_numbers f (seq ps) = plain.seq (all_with_numbers f ps)
  with_numbers f (choice ps) = plain.choice (all_with_numbers f ps)
  with_numbers f (opt p) = plain.opt (with_numbers f p)
  with_numbers f (star p) = plain.star (with_numbers f p)
  with_numbers f (plus p) = plain.plus (with_numbers f p)

  pub all_with_numbers : (List ℕ → ℕ) → NamedParts → PlainParts
  all_with_numbers f no_parts = plain.no_parts
  all_with_numbers f (part p ps) = plain.part (with_numbers f p) (all_with_numbers f ps)

abbrev pub model_with_numbers : (List ℕ → ℕ) → NamedModel → PlainModel
model_with_numbers f empty = plain.empty
model_with_numbers f any = plain.any
model_with_numbers f (mixed names) = plain.mixed (map f names)
model_with_numbers f (children p) = plain.children (with_numbers f p)

-- the number of one of the names
abbrev pub number_among : List (List ℕ) → List ℕ → ℕ
number_among names x = unwrap_or (place_of names x) 0

-- each name at its first place alone
abbrev pub each_once : List (List ℕ) → List (List ℕ) → List (List ℕ)
each_once seen [] = []
each_once seen (n ∷ ns) =
    if list_any (bytes_eq n) seen then each_once seen ns else n ∷ each_once (n ∷ seen) ns

-- the names that items declare, in order of declaration, and then those that they only mention, in
-- order of first mention
abbrev pub names_of : List DtdItem → List (List ℕ)
names_of items = each_once [] (declared_in items ++ mentioned_in (models_in items))

-- the DTD that items are
abbrev pub dtd_of_items : List DtdItem → PlainDtd
dtd_of_items items = record {
  names = names_of items;
  models = map (model_with_numbers (number_among (names_of items))) (models_in items);
}
