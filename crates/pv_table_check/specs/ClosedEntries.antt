-- Entries over a word, and what it means that they are closed at a site.
use Rattle.std.specs.Prelude.{List, min, ℕ, ◌+◌, ◌<◌, ◌≤◌}
use Rattle.std.specs.List.{All, AllPairs}
use Rattle.pv_model.specs.Plain.{PlainToken}
use Rattle.pv_dtd.specs.Plain.{PlainDtd}
use Rattle.pv_rules.specs.Derivations.{heaviest, sum_of}
use Rattle.pv_rules.specs.PlainForms.{plain_site}
use Rattle.pv_rules.specs.Rules.{Goal, IsSpan, Rule, over}
use Rattle.pv_rules.specs.Sites.{HasSite, PlainSite}
use Rattle.pv_tables.specs.Tables.{Precedes}
use Rattle.pv_tables.specs.Values.{listed_value}
use Rattle.pv_tables.specs.declared.tables.Entry.{Entry}

-- an entry names a site of the DTD and a span of the word, and its value isn't past 1,000,000
pub record IsEntryOver (g : PlainDtd) (w : List PlainToken) (e : Entry) : Type 0 where
  pub is_site : HasSite g (plain_site e.site)
  pub is_span : IsSpan w e.from e.to
  pub light : e.value < heaviest

-- the entries are over the word, and ascend strictly
pub record AreOver (g : PlainDtd) (w : List PlainToken) (es : List Entry) : Type 0 where
  pub each : All (IsEntryOver g w) es
  pub ascend : AllPairs Precedes es

-- no rule of the site leads to less than the values of the entries, what isn't listed having the
-- value 1,000,001
abbrev pub AreClosedAt : PlainDtd → List PlainToken → List Entry → PlainSite → Type 0
AreClosedAt g w es s = (i j c : ℕ) (xs : List Goal) → Rule g w (over s i j) c xs →
    listed_value es (over s i j) ≤ min heaviest (c + sum_of (listed_value es) xs)
