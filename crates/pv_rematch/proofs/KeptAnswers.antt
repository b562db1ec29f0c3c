-- What is kept of a word tells whether the model allows it.
use Rattle.std.proofs.Common.{◌≡◌, ℕ, ◌↔◌, Bool, List, [], ◌∷◌, IsTrue, eqb, refl, sym, ◌∙◌, subst}
use Rattle.std.proofs.Common.{eqb-true, eq-eqb}
use Rattle.std.specs.List.{AllByRecursion}
use Rattle.pv_model.specs.Plain.{PlainPart, PlainModel, empty, any, mixed, children, PlainToken}
use Rattle.pv_model.specs.Models.{Allows}
use Rattle.pv_model.proofs.Answer.{read-means}
use Rattle.pv_rematch.specs.Counts.{AreWithout, IsAllowedAlone, JudgesAlone}
use Rattle.pv_rematch.specs.States.{is_word}
use Rattle.pv_rematch.specs.Stretches.{AreOf}
use Rattle.pv_rematch.specs.declared.stretches.Points.{Points}
use Rattle.pv_rematch.proofs.TokenNumbers.{all_of_none, none_of_all}

module _ (d : ℕ) where
  -- such a model allows a word exactly where it allows each token alone
  allowed_whole : (m : PlainModel) (u : List PlainToken) → JudgesAlone m →
      AllByRecursion (IsAllowedAlone d m) u → Allows d m u
  allowed_whole empty [] j a = refl
  allowed_whole empty (t ∷ u) j a = let e = a.0 in absurd cc
  allowed_whole any [] j a = tt
  allowed_whole any (t ∷ u) j a = (a.0.0, allowed_whole any u j a.1)
  allowed_whole (mixed ys) [] j a = tt
  allowed_whole (mixed ys) (t ∷ u) j a = (a.0.0, allowed_whole (mixed ys) u j a.1)
  allowed_whole (children p) u j a = absurd j

  allowed_each : (m : PlainModel) (u : List PlainToken) → JudgesAlone m →
      Allows d m u → AllByRecursion (IsAllowedAlone d m) u
  allowed_each empty [] j a = tt
  allowed_each empty (t ∷ u) j a = absurd cc
  allowed_each any [] j a = tt
  allowed_each any (t ∷ u) j a = ((a.0, tt), allowed_each any u j a.1)
  allowed_each (mixed ys) [] j a = tt
  allowed_each (mixed ys) (t ∷ u) j a = ((a.0, tt), allowed_each (mixed ys) u j a.1)
  allowed_each (children p) u j a = absurd j

  pub count_answers : (m : PlainModel) (u : List PlainToken) (n : ℕ) (b : Bool) → b ≡ eqb n 0 →
      JudgesAlone m → AreWithout (IsAllowedAlone d m) u n → IsTrue b ↔ Allows d m u
  count_answers m u n b e j h =
      let P = IsAllowedAlone d m in (
        (λ t. allowed_whole m u j (all_of_none P u n (eqb-true n 0 (sym e ∙ t)) h)),
        (λ a. e ∙ eq-eqb n 0 (none_of_all P u n (allowed_each m u j a) h)),
      )

-- a particle, of which it is known whether the word is one
pub word_answer : (d : ℕ) (m : PlainModel) (w : List PlainToken) (p : PlainPart) (b : Bool) →
    m ≡ children p → b ≡ is_word p w → IsTrue b ↔ Allows d m w
word_answer d m w p b e is =
    let P : PlainModel → Type 0 = λ n. IsTrue b ↔ Allows d n w in
    let all = read-means p w in
    subst P (sym e) ((λ h. all.0 (sym is ∙ h)), (λ h. is ∙ all.1 h))

pub points_answer : (d : ℕ) (m : PlainModel) (w : List PlainToken) (ps : Points) →
    (p : PlainPart) × (m ≡ children p) × AreOf p w ps → IsTrue ps.is_allowed ↔ Allows d m w
points_answer d m w ps k = word_answer d m w k.0 ps.is_allowed k.1 k.2.answer
