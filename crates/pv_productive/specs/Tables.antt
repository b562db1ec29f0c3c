-- Tables of sizes that are raised until nothing changes, over no tokens.
use Rattle.std.specs.Prelude.{Bool, List, Option, Some, None, [], false, length, min, nat_le}
use Rattle.std.specs.Prelude.{slice_index_or, slice_set, suc, sum, true, ℕ, if◌then◌else◌, ◌+◌}
use Rattle.std.specs.Prelude.{◌<◌, ◌≡◌, ◌≤◌}
use Rattle.pv_model.specs.Plain.{PlainModel, PlainPart, PlainParts, any, children, empty}
use Rattle.pv_model.specs.Plain.{mixed}
use Rattle.pv_dtd.specs.Plain.{PlainDtd, model_of, parts_in_models}
use Rattle.pv_dtd.specs.Productive.{IsProductive}
use Rattle.pv_productive.specs.Sizes.{IsCutSize}
use Rattle.pv_rules.specs.Derivations.{Derives, heaviest, sum_of}
use Rattle.pv_rules.specs.Numbering.{IsMemberAt, first_part}
use Rattle.pv_rules.specs.Rules.{Goal, Rule, over}
use Rattle.pv_rules.specs.Sites.{PlainSite, content_site, name_site, part_site, rest_site}

-- the size of what has no derivation; more than a rule adds up from sizes that are cut
abbrev pub no_size : ℕ
no_size = 4000000

abbrev pub capped : ℕ → ℕ
capped n = if nat_le no_size n then no_size else min heaviest n

-- the sizes found so far of elements of each name, of each part, and of the members of a sequence
-- from each on
pub record Table : Type 0 where
  pub names : List ℕ
  pub parts : List ℕ
  pub rests : List ℕ

abbrev pub size_at : List ℕ → ℕ → ℕ
size_at cells n = slice_index_or cells n no_size

abbrev pub size_in : Table → ℕ → Option PlainModel → ℕ
size_in t q None = no_size
size_in t q (Some empty) = 0
size_in t q (Some any) = 0
size_in t q (Some (mixed ys)) = 0
size_in t q (Some (children p)) = size_at t.parts q

abbrev pub size_of : PlainDtd → Table → PlainSite → ℕ
size_of g t (name_site x) = size_at t.names x
size_of g t (content_site x) = size_in t (first_part g x) (model_of g x)
size_of g t (part_site q) = size_at t.parts q
size_of g t (rest_site q) = size_at t.rests q

-- the sizes of right sides, added
abbrev pub total : PlainDtd → Table → List Goal → ℕ
total g t xs = sum_of (λ (x : Goal). size_of g t x.site) xs

-- k is the least sum of cost and right sides, over the rules of a site
pub record IsLeastSum (g : PlainDtd) (t : Table) (s : PlainSite) (k : ℕ) : Type 0 where
  pub below : (c : ℕ) (xs : List Goal) → Rule g [] (over s 0 0) c xs → k ≤ c + total g t xs
  pub attained : k < no_size →
      (c : ℕ) × (xs : List Goal) × Rule g [] (over s 0 0) c xs × (k ≡ c + total g t xs)

-- k is the least size of the members of choice number q
pub record IsLeastMember (g : PlainDtd) (t : Table) (q : ℕ) (ps : PlainParts) (k : ℕ) : Type 0 where
  pub bounded : k ≤ no_size
  pub below : (p : PlainPart) (r : ℕ) → IsMemberAt p r (suc q) ps → k ≤ size_at t.parts r
  pub attained : k < no_size →
      (p : PlainPart) × (r : ℕ) × IsMemberAt p r (suc q) ps × (k ≡ size_at t.parts r)

-- k is the size of no derivation, or that of one, cut
abbrev pub HasSize : PlainDtd → PlainSite → ℕ → Type 0
HasSize g s k = (k ≤ no_size) ×
    (k < no_size → (n : ℕ) × Derives (Rule g []) n (over s 0 0) × (k ≡ min heaviest n))

-- the table has a size for each name and each part, and each is that of no derivation, or of one
pub record IsAttained (g : PlainDtd) (t : Table) : Type 0 where
  pub all_names : length t.names ≡ length g.names
  pub all_parts : length t.parts ≡ parts_in_models g.models
  pub all_rests : length t.rests ≡ parts_in_models g.models
  pub names : (x : ℕ) → HasSize g (name_site x) (size_at t.names x)
  pub parts : (q : ℕ) → HasSize g (part_site q) (size_at t.parts q)
  pub rests : (q : ℕ) → HasSize g (rest_site q) (size_at t.rests q)

-- the rules of this site lower nothing in the table
abbrev pub IsSettledAt : PlainDtd → Table → PlainSite → Type 0
IsSettledAt g t s = (c : ℕ) (xs : List Goal) → Rule g [] (over s 0 0) c xs →
    size_of g t s ≤ capped (c + total g t xs)

abbrev pub IsSettled : PlainDtd → Table → Type 0
IsSettled g t = (s : PlainSite) → IsSettledAt g t s

abbrev pub ArePartsSettled : PlainDtd → ℕ → ℕ → Table → Type 0
ArePartsSettled g first end t = (q : ℕ) → first ≤ q → q < end →
    IsSettledAt g t (part_site q) × IsSettledAt g t (rest_site q)

abbrev pub AreNamesSettled : PlainDtd → ℕ → ℕ → Table → Type 0
AreNamesSettled g first end t = (x : ℕ) → first ≤ x → x < end → IsSettledAt g t (name_site x)

abbrev pub sum_in : Table → ℕ
sum_in t = sum t.names + (sum t.parts + sum t.rests)

-- The new table is attained. Where nothing changed it is the old one, of which P holds, and else
-- its sizes are less in all.
pub record IsLowering (g : PlainDtd) (P : Table → Type 0) (old new : Table) (changed : Bool) :
    Type 0 where
  pub attained : IsAttained g new
  pub same : changed ≡ false → new ≡ old
  pub settled : changed ≡ false → P old
  pub less : changed ≡ true → sum_in new < sum_in old

-- the size at number n is now k where that is less
pub record IsLowered (old new : List ℕ) (n k : ℕ) (changed : Bool) : Type 0 where
  pub lowered : changed ≡ true → (k < size_at old n) × (new ≡ slice_set old n k)
  pub kept : changed ≡ false → (size_at old n ≤ k) × (new ≡ old)

-- The sizes of all names: no_size is that of a name that isn't productive.
pub record AreSizes (g : PlainDtd) (sizes : List ℕ) : Type 0 where
  pub long : length sizes ≡ length g.names
  pub some_tree : (y : ℕ) → size_at sizes y < no_size → IsCutSize g y (size_at sizes y)
  pub no_tree : (y : ℕ) → no_size ≤ size_at sizes y → ¬ IsProductive g y
