-- What `dtd DTD` responds: a line for each declared name, and one of totals.
use Rattle.std.specs.Prelude.{◌≡◌, ◌<◌, ◌-◌, ℕ, suc, List, [], ◌∷◌, ◌++◌, length, codes, decimal}
use Rattle.pv_model.specs.Plain.{PlainModel, empty, any, mixed, children}
use Rattle.pv_dtd.specs.Plain.{PlainDtd, declared, parts_in_models, spelling_of}
use Rattle.pv_dtd.specs.Productive.{IsProductive}
use Rattle.pv_rules.specs.Derivations.{heaviest}
use Rattle.pv_productive.specs.Sizes.{IsCutSize}
use Rattle.pv_opening.specs.declared.status.Status.TheVariants.{Done}
use Rattle.pv_opening.specs.Course.{Course}
use Rattle.pv_opening.specs.Opening.{Files, dtd_file_stage, file_at}
use Rattle.pv_opening.specs.Response.{PlainResponse}
use Rattle.pv_opening.specs.Stage.{Behind, Responds}

abbrev pub model_text : PlainModel → List ℕ
model_text empty = codes "empty"
model_text any = codes "any"
model_text (mixed ys) = codes "mixed"
model_text (children p) = codes "children"

-- the least number of elements in an element of a name, itself included
pub data IsTreeText (g : PlainDtd) (y : ℕ) (tree : List ℕ) : Type 0 where
  unproductive : ¬ IsProductive g y → tree ≡ codes "unproductive" → IsTreeText g y tree
  counted : (n : ℕ) → IsCutSize g y n → n < heaviest → tree ≡ decimal n → IsTreeText g y tree
  over : IsCutSize g y heaviest → tree ≡ codes "over" → IsTreeText g y tree

-- the line of name number y, whose model this is
pub record IsNameLine (g : PlainDtd) (y : ℕ) (m : PlainModel) (line : List ℕ) : Type 0 where
  pub tree : List ℕ
  pub is_tree : IsTreeText g y tree
  pub is_line : line ≡ spelling_of g y ++ codes " " ++ model_text m ++ codes " " ++ tree ++
      codes "\n"

-- the lines of the names from number y on, whose models these are
abbrev pub AreNameLines : PlainDtd → ℕ → List PlainModel → List ℕ → Type 0
AreNameLines g y [] lines = lines ≡ []
AreNameLines g y (m ∷ ms) lines =
    (line : List ℕ) × (rest : List ℕ) × IsNameLine g y m line × AreNameLines g (suc y) ms rest ×
    (lines ≡ line ++ rest)

-- the line of totals
abbrev pub totals : PlainDtd → List ℕ
totals g = codes "types " ++ decimal (declared g) ++ codes " parts " ++
    decimal (parts_in_models g.models) ++ codes " undeclared " ++
    decimal (length g.names - declared g) ++ codes "\n"

-- the response of `dtd`: a line for each declared name, in order, and the line of totals
pub record TellsDtd (g : PlainDtd) (r : PlainResponse) : Type 0 where
  pub lines : List ℕ
  pub are_lines : AreNameLines g 0 g.models lines
  pub is_response : r ≡ record { status = Done; output = lines ++ totals g }

-- what `dtd` does: it opens the DTD, and responds
abbrev pub IsDtdCourse : Files → Course → Type 0
IsDtdCourse files = Behind (dtd_file_stage (file_at 0 files)) (λ g. Responds (TellsDtd g))
