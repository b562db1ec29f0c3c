-- What a state says once a token more is read.
use Rattle.std.proofs.Common.{◌≡◌, ℕ, Bool, true, false, List, [], ◌∷◌, ◌++◌, length, not, refl}
use Rattle.std.proofs.Common.{sym, ap, ◌∙◌, append_assoc}
use Rattle.std.proofs.Math.Bool.{beq}
use lib.Pointwise.{pointwise}
use Rattle.pv_model.specs.Plain.{PlainPart, PlainToken, named, text, other}
use Rattle.pv_model.specs.PlainForms.{plain_token}
use Rattle.pv_model.specs.declared.models.NameId.{NameId}
use Rattle.pv_model.specs.declared.models.Token.{Token}
use Rattle.pv_model.specs.declared.models.Token.TheVariants as token
use Rattle.pv_model.specs.Positions.{may_be_empty, unreached_positions, is_end_after}
use Rattle.pv_model.specs.Positions.{positions_after, any_reached, overwrite}
use Rattle.pv_model.proofs.WordWalks.{IsReading, IsReading-none, IsReading-more}
use Rattle.pv_rematch.specs.States.{IsAfter, is_word}
use Rattle.pv_rematch.specs.declared.states.State.{State}

pub after_none : (p : PlainPart) (s : State) → s.is_start ≡ true → s.is_end ≡ may_be_empty p →
    s.positions.items ≡ unreached_positions p → IsAfter p [] s
after_none p s b e m = record {
  count = let r = IsReading-none p [] (may_be_empty p) s.positions.items refl m in r.count;
  goes_on = λ v. rw (b, e, m) refl;
}

pub after_same : (p : PlainPart) (u : List PlainToken) (s t : State) → t.is_start ≡ s.is_start →
    t.is_end ≡ s.is_end → t.positions.items ≡ s.positions.items → IsAfter p u s → IsAfter p u t
after_same p u s t b e m h = record {
  count = ap length m ∙ h.count;
  goes_on = λ v. rw (b, e, m) (h.goes_on v);
}

-- after two words that are read to equal states, the same further tokens make words of the part
pub same_behind : (p : PlainPart) (u v : List PlainToken) (s t : State) → s.is_start ≡ t.is_start →
    s.is_end ≡ t.is_end → s.positions.items ≡ t.positions.items → IsAfter p u s → IsAfter p v t →
    (w : List PlainToken) → is_word p (u ++ w) ≡ is_word p (v ++ w)
same_behind p u v s t b e m h k w =
    let r = after_same p v t s b e m k in sym (h.goes_on w) ∙ r.goes_on w

module _ (p : PlainPart) (u : List PlainToken) (s t : State) (y : ℕ) (h : IsAfter p u s) where
  read_on : (v : List PlainToken) →
      IsReading p (u ++ named y ∷ v) s.is_start s.is_end s.positions.items (named y ∷ v)
  read_on v = record { count = h.count; answer = h.goes_on (named y ∷ v) }

  pub after_more : any_reached (positions_after p s.is_start y s.positions.items) ≡ true →
      t.is_start ≡ false → t.is_end ≡ is_end_after p s.is_start y s.positions.items →
      t.positions.items ≡ overwrite 0 (positions_after p s.is_start y s.positions.items)
      s.positions.items → IsAfter p (u ++ named y ∷ []) t
  after_more some b e m =
      let more : (v : List PlainToken) →
      IsReading p (u ++ named y ∷ v) false t.is_end t.positions.items v =
      λ v. IsReading-more p (u ++ named y ∷ v) s.is_start s.is_end s.positions.items y v
      (read_on v) some t.is_end t.positions.items e m in
      record {
        count = let r = more [] in r.count;
        goes_on =
            λ v. rw b (let r = more v in
            r.answer ∙ ap (is_word p) (sym (append_assoc u (named y ∷ []) v)));
      }

  pub never_on : any_reached (positions_after p s.is_start y s.positions.items) ≡ false →
      (v : List PlainToken) → is_word p (u ++ named y ∷ v) ≡ false
  never_on none v =
      let no : false ≡ is_word p (u ++ named y ∷ v) = rw none at (h.goes_on (named y ∷ v)) in sym no

pub never_no_name : (p : PlainPart) (u : List PlainToken) (s : State) (t : Token) →
    ((id : NameId) → t ≡ token.Name id → ⊥) → IsAfter p u s → (v : List PlainToken) →
    is_word p (u ++ plain_token t ∷ v) ≡ false
never_no_name p u s (token.Name id) n h v = absurd (n id refl)
never_no_name p u s token.Text n h v = sym (h.goes_on (text ∷ v))
never_no_name p u s token.Other n h v = sym (h.goes_on (other ∷ v))

pub not_true : (b : Bool) → not b ≡ true → b ≡ false
not_true true h = absurd cc
not_true false h = refl

pub same_flags : (xs ys : List Bool) → pointwise beq xs ys ≡ true → xs ≡ ys
same_flags [] [] h = refl
same_flags [] (y ∷ ys) h = absurd cc
same_flags (x ∷ xs) [] h = absurd cc
same_flags (true ∷ xs) (true ∷ ys) h = ap (λ l. true ∷ l) (same_flags xs ys h)
same_flags (true ∷ xs) (false ∷ ys) h = absurd cc
same_flags (false ∷ xs) (true ∷ ys) h = absurd cc
same_flags (false ∷ xs) (false ∷ ys) h = ap (λ l. false ∷ l) (same_flags xs ys h)
