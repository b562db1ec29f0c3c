-- How the values that contracts see of a session are told apart: each plain type is coded one to
-- one. Nothing else is meant by a code.
use Rattle.std.specs.Prelude.{List, ℕ, refl}
use Rattle.std.specs.Coded.{Coded, code_by, coded_list, coded_ℕ, coded×}
use base.Stored.{coded_unit}
use Rattle.pv_cache.specs.Codes.{bytes_code, doc_code, dtd_code}
use Rattle.pv_dtd.specs.Plain.{PlainDtd}
use Rattle.pv_edit.specs.contracts.edits.Edit as edit
use Rattle.pv_edit.specs.declared.edits.Edit.{Edit}
use Rattle.pv_session.specs.Sessions.{PlainSession}
use Rattle.pv_tree.specs.Plain.{PlainDoc}

abbrev pub session_code : Coded PlainSession
session_code =
    code_by (PlainDtd × (List ℕ × (PlainDoc Unit × (List Edit × (List Edit × (ℕ × PlainDoc ℕ))))))
    (coded× dtd_code (coded× bytes_code (coded×
    (doc_code coded_unit) (coded× (coded_list edit.the_row.coded)
    (coded× (coded_list edit.the_row.coded) (coded× coded_ℕ (doc_code coded_ℕ)))))))
    (λ s. (s.dtd, (s.root, (s.opened, (s.past, (s.undone, (s.moves, s.doc)))))))
    (λ p. record {
      dtd = p.0;
      root = p.1.0;
      opened = p.1.1.0;
      past = p.1.1.1.0;
      undone = p.1.1.1.1.0;
      moves = p.1.1.1.1.1.0;
      doc = p.1.1.1.1.1.1;
    })
    (λ _. refl)
