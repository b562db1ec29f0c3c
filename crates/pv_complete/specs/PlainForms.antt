-- The plain forms of what walks over lists have added up and made.
use Rattle.pv_complete.specs.Loads.{PlainLoad}
use Rattle.pv_complete.specs.TableWalks.{PlainMade}
use Rattle.pv_complete.specs.declared.missing.load.Load.{Load}
use Rattle.pv_complete.specs.declared.listings.made.Made.{Made}

abbrev pub load_of : Load → PlainLoad
load_of l = record { used = l.used; total = l.total }

abbrev pub made_of : Made → PlainMade
made_of m = record { used = m.used; tables = m.tables.items; room = m.room }
