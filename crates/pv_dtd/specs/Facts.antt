-- What every DTD keeps, as tests.
use Rattle.std.specs.Prelude.{ℕ, suc, ◌-◌, max, Bool, true, false, not, ◌&&◌, nat_le, nat_lt}
use Rattle.std.specs.Prelude.{nat_eq, List, [], ◌∷◌, length, map, Vec}
use Rattle.std.specs.List.{list_all, list_any, range_with_len}
use Rattle.std.specs.Str.{bytes_eq}
use Rattle.std.specs.declared.alloc.Global.{Global}
use Rattle.pv_chars.specs.Names.{IsName}
use Rattle.pv_model.specs.Plain.{PlainPart, name, seq, choice, opt, star, plus, PlainParts}
use Rattle.pv_model.specs.Plain.{no_parts, part, PlainModel, empty, any, mixed, children}
use Rattle.pv_model.specs.declared.models.ContentModel.{ContentModel}
use Rattle.pv_model.specs.PlainForms.{plain_model}
use Rattle.pv_dtd.specs.Plain.{PlainDtd, mentions}

-- the most bytes of a name that a DTD keeps
abbrev pub MAX_NAME_BYTES : ℕ
MAX_NAME_BYTES = 256

-- what the names and models that a DTD holds are seen as
abbrev pub as_dtd : List (Vec ℕ Global) → List ContentModel → PlainDtd
as_dtd names models = record { names = map (λ v. v.items) names; models = map plain_model models }

-- no two of the names are the same
abbrev pub are_distinct : List (List ℕ) → Bool
are_distinct [] = true
are_distinct (n ∷ ns) = not (list_any (bytes_eq n) ns) && are_distinct ns

abbrev pub are_distinct_numbers : List ℕ → Bool
are_distinct_numbers [] = true
are_distinct_numbers (n ∷ ns) = not (list_any (nat_eq n) ns) && are_distinct_numbers ns

-- a name of at most 256 bytes
abbrev pub is_short_name : List ℕ → Bool
is_short_name n = nat_le (length n) MAX_NAME_BYTES

-- the names are short, and differ
abbrev pub are_names : List (List ℕ) → Bool
are_names names = list_all is_short_name names && are_distinct names

-- each name is a Name (XML 1.0, 2.3)
abbrev pub AreLegalNames : List (List ℕ) → Type 0
AreLegalNames [] = Unit {0}
AreLegalNames (n ∷ ns) = IsName n × AreLegalNames ns

-- each number that stands in a model is that of a name of the DTD
abbrev pub are_known : PlainDtd → Bool
are_known g = list_all (λ y. nat_lt y (length g.names)) (mentions g.models)

-- a name that isn't declared stands in some model
abbrev pub are_mentioned : PlainDtd → Bool
are_mentioned g = list_all (λ y. list_any (nat_eq y) (mentions g.models))
    (range_with_len (length g.models) (length g.names - length g.models))

abbrev pub has_operator : PlainPart → Bool
has_operator (name y) = false
has_operator (seq ps) = false
has_operator (choice ps) = false
has_operator (opt p) = true
has_operator (star p) = true
has_operator (plus p) = true

abbrev pub members : PlainParts → ℕ
members no_parts = 0
members (part p ps) = suc (members ps)

-- each sequence has a member, each choice two, and no `?`, `*` or `+` stands directly in another
-- (XML 1.0, 3.2.1)
abbrev mutual
  pub is_formed_part : PlainPart → Bool
  is_formed_part (name y) = true
  is_formed_part (seq ps) = nat_le 1 (members ps) && are_formed_parts ps
  is_formed_part (choice ps) = nat_le 2 (members ps) && are_formed_parts ps
  is_formed_part (opt p) = not (has_operator p) && is_formed_part p
  is_formed_part (star p) = not (has_operator p) && is_formed_part p
  is_formed_part (plus p) = not (has_operator p) && is_formed_part p

  pub are_formed_parts : PlainParts → Bool
  are_formed_parts no_parts = true
  are_formed_parts (part p ps) = is_formed_part p && are_formed_parts ps

-- how many sequences and choices stand one inside another
abbrev mutual
  pub nesting : PlainPart → ℕ
  nesting (name y) = 0
  nesting (seq ps) = suc (nesting_all ps)
  nesting (choice ps) = suc (nesting_all ps)
  nesting (opt p) = nesting p
  nesting (star p) = nesting p
  nesting (plus p) = nesting p

  pub nesting_all : PlainParts → ℕ
  nesting_all no_parts = 0
  nesting_all (part p ps) = max (nesting p) (nesting_all ps)

abbrev pub MAX_NESTING : ℕ
MAX_NESTING = 64

-- the particle of a model is formed and within the limit of nesting, and no name is listed twice
-- (XML 1.0, 3.2.1, 3.2.2)
abbrev pub is_formed_model : PlainModel → Bool
is_formed_model empty = true
is_formed_model any = true
is_formed_model (mixed ys) = are_distinct_numbers ys
is_formed_model (children p) = is_formed_part p && nat_le (nesting p) MAX_NESTING

-- the most declared types
abbrev pub MAX_TYPES : ℕ
MAX_TYPES = 4096

-- the most parts of all models
abbrev pub MAX_PARTS : ℕ
MAX_PARTS = 65536

-- the most bytes of a DTD
abbrev pub MAX_DTD_BYTES : ℕ
MAX_DTD_BYTES = 4194304
