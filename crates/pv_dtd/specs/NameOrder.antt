-- Names in the order in which they first came, each with its number.
use Rattle.std.specs.Prelude.{◌≡◌, ℕ, map, List, [], ◌∷◌, ◌++◌, length, if◌then◌else◌, is_some}
use Rattle.std.specs.Prelude.{unwrap_or}
use Rattle.pv_model.specs.Plain.{PlainPart, PlainParts, PlainModel}
use Rattle.pv_dtd.specs.Plain.{place_of}
use Rattle.pv_dtd.specs.Items.{NamedPart, NamedParts, NamedModel}
use Rattle.pv_dtd.specs.Numbering.{number_among, with_numbers, all_with_numbers}
use Rattle.pv_dtd.specs.Numbering.{model_with_numbers}

-- the names, and after them this one where it is new
abbrev pub names_with : List (List ℕ) → List ℕ → List (List ℕ)
names_with names x = if is_some (place_of names x) then names else names ++ x ∷ []

-- the number that this name has then
abbrev pub number_in : List (List ℕ) → List ℕ → ℕ
number_in names x = unwrap_or (place_of names x) (length names)

-- more has these names in front
pub record AreFirstIn (names more : List (List ℕ)) : Type 0 where
  pub added : List (List ℕ)
  pub whole : more ≡ names ++ added

-- the names, and after them the new ones of these
abbrev pub with_names : List (List ℕ) → List (List ℕ) → List (List ℕ)
with_names names [] = names
with_names names (x ∷ xs) = with_names (names_with names x) xs

-- These are the numbers of names, however the names go on; and so for particles and models.
abbrev pub NumbersNames : List (List ℕ) → List (List ℕ) → List ℕ → Type 0
NumbersNames names xs ys = (more : List (List ℕ)) → AreFirstIn names more →
    map (number_among more) xs ≡ ys

abbrev pub NumbersPart : List (List ℕ) → NamedPart → PlainPart → Type 0
NumbersPart names p q = (more : List (List ℕ)) → AreFirstIn names more →
    with_numbers (number_among more) p ≡ q

abbrev pub NumbersParts : List (List ℕ) → NamedParts → PlainParts → Type 0
NumbersParts names ps qs = (more : List (List ℕ)) → AreFirstIn names more →
    all_with_numbers (number_among more) ps ≡ qs

abbrev pub NumbersModel : List (List ℕ) → NamedModel → PlainModel → Type 0
NumbersModel names m n = (more : List (List ℕ)) → AreFirstIn names more →
    model_with_numbers (number_among more) m ≡ n

abbrev pub NumbersModels : List (List ℕ) → List NamedModel → List PlainModel → Type 0
NumbersModels names ms ns = (more : List (List ℕ)) → AreFirstIn names more →
    map (model_with_numbers (number_among more)) ms ≡ ns
