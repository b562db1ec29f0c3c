-- The values that entries give to goals, and the sum of the whole-list values of tables.
use Rattle.std.specs.Prelude.{Bool, List, Some, [], nat_eq, ℕ, ◌&&◌, ◌+◌, ◌∷◌, ◌≡◌, if◌then◌else◌}
use Rattle.std.specs.List.{Contains}
use Rattle.pv_dtd.specs.Plain.{PlainDtd}
use Rattle.pv_tree.specs.Lists.{Listed}
use Rattle.pv_tree.specs.Words.{word_of}
use Rattle.pv_rules.specs.Derivations.{heaviest}
use Rattle.pv_rules.specs.PlainForms.{plain_site}
use Rattle.pv_rules.specs.Rules.{Goal, over}
use Rattle.pv_rules.specs.Sites.{PlainSite}
use Rattle.pv_missing.specs.ListWeights.{site_of, whole}
use Rattle.pv_tables.specs.Tables.{kind_rank, site_number}
use Rattle.pv_tables.specs.declared.tables.Entry.{Entry}
use Rattle.pv_tables.specs.declared.tables.Table.{Table}

-- the site and the span of an entry
abbrev pub goal_of : Entry → Goal
goal_of e = over (plain_site e.site) e.from e.to

abbrev pub are_same_sites : PlainSite → PlainSite → Bool
are_same_sites a b =
    nat_eq (kind_rank a) (kind_rank b) && nat_eq (site_number a) (site_number b)

abbrev pub are_same_goals : Goal → Goal → Bool
are_same_goals a b =
    are_same_sites a.site b.site && (nat_eq a.from b.from && nat_eq a.to b.to)

-- the value of a site over a span: that of its entry, and past the cut where none is listed
abbrev pub listed_value : List Entry → Goal → ℕ
listed_value [] x = heaviest
listed_value (e ∷ es) x = if are_same_goals (goal_of e) x then e.value else listed_value es x

-- an entry of the list has this site and span, and its value is theirs
abbrev pub IsListed : List Entry → Goal → Type 0
IsListed es x = (e : Entry) × Contains es e × (goal_of e ≡ x) × (listed_value es x ≡ e.value)

-- no entry of the list has this site and span, and their value is past the cut
abbrev pub IsUnlisted : List Entry → Goal → Type 0
IsUnlisted es x =
    (listed_value es x ≡ heaviest) × ((e : Entry) → Contains es e → goal_of e ≡ x → ⊥)

-- The table has the path of one of the lists, and k is its value for all of that list's word, at
-- the site of the list's owner.
pub record HasWholeValue {M : Type 0} (g : PlainDtd) (root : List ℕ) (lists : List (Listed M))
    (t : Table) (k : ℕ) : Type 0 where
  pub list : Listed M
  pub is_listed : Contains lists list
  pub is_path : t.path ≡ list.path
  pub site : PlainSite
  pub is_site : site_of g root list.owner ≡ Some site
  pub is_value : k ≡ listed_value t.entries (whole site (word_of g list.kids))

-- s is the sum of the whole-list values of the tables, not cut
abbrev pub HaveTotal : {M : Type 0} → PlainDtd → List ℕ → List (Listed M) → List Table → ℕ → Type 0
HaveTotal g root lists [] s = s ≡ 0
HaveTotal g root lists (t ∷ ts) s = (a : ℕ) × (b : ℕ) × (s ≡ a + b) ×
    HasWholeValue g root lists t a × HaveTotal g root lists ts b
