-- Elements that may have kids.
use Rattle.std.specs.Prelude.{Some, ℕ, ◌≡◌, ◌≢◌}
use Rattle.pv_model.specs.Plain.{PlainModel, empty}
use Rattle.pv_dtd.specs.Plain.{PlainDtd, model_of}
use Rattle.pv_dtd.specs.Productive.{IsProductive}

-- the name is productive and has this content model, which isn't EMPTY (XML 1.0, 3.2)
pub record IsOpenContent (g : PlainDtd) (x : ℕ) (m : PlainModel) : Type 0 where
  pub productive : IsProductive g x
  pub model : model_of g x ≡ Some m
  pub not_empty : m ≢ empty
