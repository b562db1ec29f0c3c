-- What every DTD of a grammar has.
use Rattle.std.proofs.Common.{IsTrue}
use Rattle.std.specs.List.{list_all}
use Rattle.pv_dtd.specs.Facts.{is_formed_model}
use Rattle.pv_dtd.specs.Plain.{PlainDtd}
use Rattle.pv_dtd.specs.Proper.{IsProperDtd}
use Rattle.pv_dtd.proofs.ProperDtds.{proper}
use Rattle.pv_productive.specs.PlainForms.{dtd_of}
use Rattle.pv_productive.specs.declared.grammar.Grammar.{Grammar}

-- a proper DTD whose models are formed
pub record IsFormedDtd (g : PlainDtd) : Type 0 where
  pub is_proper : IsProperDtd g
  pub formed : IsTrue (list_all is_formed_model g.models)

pub formed_dtd : (g : Grammar) → IsFormedDtd (dtd_of g)
formed_dtd g = record { is_proper = proper g.layout.dtd; formed = g.layout.dtd.formed }
