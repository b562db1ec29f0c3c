-- The plain forms of a table of sizes and of the DTD of a grammar.
use Rattle.pv_dtd.specs.Plain.{PlainDtd}
use Rattle.pv_dtd.specs.PlainForms.{plain_dtd}
use Rattle.pv_productive.specs.Tables.{Table}
use Rattle.pv_productive.specs.declared.grammar.Grammar.{Grammar}
use Rattle.pv_productive.specs.declared.sizes.Sizes.{Sizes}

abbrev pub table_of : Sizes → Table
table_of s = record { names = s.names.items; parts = s.parts.items; rests = s.rests.items }

-- the DTD of a grammar
abbrev pub dtd_of : Grammar → PlainDtd
dtd_of g = plain_dtd g.layout.dtd
