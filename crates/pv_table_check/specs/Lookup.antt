-- The entries of a table, looked up by their goals.
use Rattle.std.specs.Prelude.{Bool, List, false, true, ℕ, ◌<◌, ◌≡◌}
use Rattle.std.specs.List.{All, AllPairs, Contains}
use Rattle.pv_rules.specs.Derivations.{heaviest}
use Rattle.pv_rules.specs.PlainForms.{plain_site}
use Rattle.pv_rules.specs.declared.sites.Site.{Site}
use Rattle.pv_tables.specs.Tables.{Precedes}
use Rattle.pv_tables.specs.declared.tables.Entry.{Entry}

-- the entries ascend strictly, and none has a value past 1,000,000
pub record AreAscendingEntries (es : List Entry) : Type 0 where
  pub ascend : AllPairs Precedes es
  pub light : All (λ e. e.value < heaviest) es

-- an entry has the site of another, and begins where that does, unless any place will do
pub record IsLike (anywhere : Bool) (probe e : Entry) : Type 0 where
  pub same_site : plain_site e.site ≡ plain_site probe.site
  pub same_from : anywhere ≡ false → e.from ≡ probe.from

-- it ends at the first place, and begins there where any place will do
pub record IsLeastProbe (anywhere : Bool) (probe : Entry) : Type 0 where
  pub ends : probe.to ≡ 0
  pub begins : anywhere ≡ true → probe.from ≡ 0

-- these are the entries that are like another one
pub record AreLike (es : List Entry) (anywhere : Bool) (probe : Entry) (found : List Entry)
    : Type 0 where
  pub like : (e : Entry) → Contains found e → Contains es e × IsLike anywhere probe e
  pub all : (e : Entry) → Contains es e → IsLike anywhere probe e → Contains found e

-- what the entries of a site that begin at a place are like
abbrev pub least_entry : Site → ℕ → Entry
least_entry s i = record { site = s; from = i; to = 0; value = 0 }
