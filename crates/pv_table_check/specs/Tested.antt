-- The plain forms of what is tested.
use Rattle.std.specs.Prelude.{List, length, map, ◌-◌, ◌<◌, ◌^◌}
use Rattle.pv_model.specs.Plain.{PlainToken}
use Rattle.pv_model.specs.PlainForms.{plain_token}
use Rattle.pv_dtd.specs.Plain.{PlainDtd, declared}
use Rattle.pv_dtd.specs.PlainForms.{plain_dtd}
use Rattle.pv_rules.specs.PlainForms.{IsFlat}
use Rattle.pv_rules.specs.Sites.{PlainSite, name_site}
use Rattle.pv_tables.specs.declared.tables.Entry.{Entry}
use Rattle.pv_table_check.specs.ClosedEntries.{AreOver, AreClosedAt}
use Rattle.pv_table_check.specs.Members.{AreMembers}
use Rattle.pv_table_check.specs.declared.tested.Tested.{Tested}

abbrev pub dtd_in : Tested → PlainDtd
dtd_in t = plain_dtd t.dtd.now

abbrev pub word_in : Tested → List PlainToken
word_in t = map plain_token t.word.now

-- the parts are those of the DTD, the word isn't longer than numbers reach, and the entries are
-- over it
pub record CanBeTested (t : Tested) : Type 0 where
  pub flat : IsFlat (dtd_in t) t.flat.now
  pub few : length t.word.now < 2 ^ 32 - 1
  pub over : AreOver (dtd_in t) (word_in t) t.entries.now

-- these are entries of the names that the DTD declares, as few as tell their least values
abbrev pub AreDeclared : Tested → List Entry → Type 0
AreDeclared t found =
    AreMembers t.entries.now (name_site 0) (name_site (declared (dtd_in t))) found

-- the entries are closed at the site
abbrev pub IsClosedIn : Tested → PlainSite → Type 0
IsClosedIn t s = AreClosedAt (dtd_in t) (word_in t) t.entries.now s
