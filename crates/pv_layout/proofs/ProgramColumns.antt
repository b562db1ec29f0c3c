-- What stands in a column of the program.
use Rattle.std.proofs.Common.{List, [], arith, refl, slice_index_or, suc, zero, ℕ, ◌<◌, ◌∷◌, ◌≡◌, length}
use Rattle.pv_layout.specs.FormForms.{plain_all, plain_form}
use Rattle.pv_layout.specs.Forms.{form_at}
use Rattle.pv_layout.specs.declared.forms.Form.{Form}

pub form_read : (forms : List Form) (n : ℕ) (r : Form) → n < length forms → r ≡ slice_index_or forms n r → form_at (plain_all forms) n ≡ plain_form r
form_read [] n r l e = absurd (omega arith)
form_read (x ∷ xs) zero r l e = let z : r ≡ x = e in rw z refl
form_read (x ∷ xs) (suc n) r l e = form_read xs n r (omega arith) e
