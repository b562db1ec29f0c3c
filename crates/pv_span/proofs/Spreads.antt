-- Values that fall from column to column, in charts of the program.
use Rattle.std.proofs.Common.{Bool, List, Some, ap, arith, inl, inr, length, slice_get, ℕ, ◌+◌, ◌<◌, ◌∙◌, ◌≡◌, ◌≤◌, ◌⊎◌}
use Rattle.std.proofs.lemmas.Bool.{cases_lt}
use Rattle.pv_model.specs.Plain.{PlainToken}
use Rattle.pv_productive.specs.Tables.{size_at}
use Rattle.pv_span.specs.Charts.{IsAttainedChart, value_of}
use Rattle.pv_layout.specs.ColumnRules.{cell}
use Rattle.pv_span.specs.DoneSpans.{rows_done}
use Rattle.pv_layout.specs.Forms.{PlainForm}
use Rattle.pv_span.specs.Least.{IsLeastAt, IsSumFrom}
use Rattle.pv_span.specs.PlainForms.{DiffersInRow, IsAttainedSoFar, plain_chart}
use Rattle.pv_span.specs.Waits.{AreHeld, HaveFallen, IsHeld, IsHeldFrom, IsLoweredTo, Waits}
use Rattle.pv_span.specs.declared.charts.Chart.{Chart}
use Rattle.pv_span.specs.declared.waiting.Waiting.{Waiting}
use Rattle.pv_span.proofs.WaitingColumns.{StillWaits, begin_more, less_held, lowered_below, lowered_held, none_held, place_more}
use Rattle.pv_span.proofs.LoweredRows.{at_hand}

module _ (g : List PlainForm) (w : List PlainToken) (i j : ℕ) (t new : Chart) (a : IsAttainedSoFar g w t) (b : IsAttainedSoFar g w new) (p : t.from ≡ i) (q : t.to ≡ j) (s : DiffersInRow t new)
    (before behind : Waiting) (f : HaveFallen before behind t.row.items new.row.items) where
  from : new.from ≡ i
  from = s.0 ∙ p

  to : new.to ≡ j
  to = s.1 ∙ q

  old_one : IsAttainedChart g w i j (plain_chart t)
  old_one = rw (p, q) at a

  new_one : IsAttainedChart g w i j (plain_chart new)
  new_one = rw (from, to) at b

  same_rows : rows_done new.done ≡ rows_done t.done
  same_rows = ap rows_done s.3

  -- a column that was lowered to the least sum of its rules
  pub first_held : (c : ℕ) (x : Bool) → c < length t.row.items → IsLoweredTo (IsLeastAt g w (value_of (plain_chart t)) (cell c i j)) t.row.items new.row.items c x →
      IsHeld g w i j (Waits behind) (plain_chart new) c
  first_held c x lt l n xs r =
      lowered_held g w i j (plain_chart t) (plain_chart new) old_one new_one s.2 same_rows
      (Waits behind) f.each c n l.sum xs r (lowered_below t.row.items new.row.items c _ x lt
      l.lowered) (l.is_sum.below n xs r)

  -- to that of the rules with a right side over the whole span
  pub next_held : (c v : ℕ) (x : Bool) → c < length t.row.items → IsLoweredTo (IsSumFrom g w (value_of (plain_chart t)) (cell c i j) v) t.row.items new.row.items c x →
      IsHeldFrom g w i j (Waits behind) (plain_chart t) (plain_chart new) c v
  next_held c v x lt l n xs d r h k =
      lowered_held g w i j (plain_chart t) (plain_chart new) old_one new_one s.2 same_rows
      (Waits behind) f.each c n l.sum xs r (lowered_below t.row.items new.row.items c _ x lt
      l.lowered) (l.is_sum.below n xs d r h
      (let e = at_hand g w i j (plain_chart t) old_one d in omega arith))

  pub one_begun : (k : ℕ) → ((c : ℕ) → c < k → IsHeld g w i j (Waits before) (plain_chart t) c) → IsHeld g w i j (Waits behind) (plain_chart new) k →
      (c : ℕ) → c < k + 1 → IsHeld g w i j (Waits behind) (plain_chart new) c
  one_begun k h now = begin_more g w i j (plain_chart t) (plain_chart new) old_one new_one s.2 same_rows (Waits behind) f.each before behind f.kept k h now

  pub one_lowered : (column value : ℕ) (above : List ℕ) (k number : ℕ) → slice_get above k ≡ Some number → (value ≤ size_at t.row.items column) ⊎ Waits before column →
      IsHeldFrom g w i j (Waits behind) (plain_chart t) (plain_chart new) number value → ((c : ℕ) → IsHeld g w i j (StillWaits before column above k c) (plain_chart t) c) →
      (c : ℕ) → IsHeld g w i j (StillWaits behind column above (k + 1) c) (plain_chart new) c
  one_lowered column value above k number e first held h =
      place_more g w i j column value above (plain_chart t) (plain_chart new) old_one new_one s.2 same_rows before behind f k number e first held h

-- a column that isn't more than the value
pub few_held : (g : List PlainForm) (w : List PlainToken) (t : Chart) (v : Waiting) (c k : ℕ) → IsAttainedSoFar g w t → size_at t.row.items c ≤ k →
    IsHeldFrom g w t.from t.to (Waits v) (plain_chart t) (plain_chart t) c k
few_held g w t v c k a l n xs d r h m = less_held g w t.from t.to (plain_chart t) a (Waits v) c k n xs d l h m

-- there is no such column
pub no_held : (g : List PlainForm) (w : List PlainToken) (t : Chart) (v : Waiting) (c k : ℕ) → length g ≤ c → IsHeldFrom g w t.from t.to (Waits v) (plain_chart t) (plain_chart t) c k
no_held g w t v c k ge n xs d r h m = none_held g w t.from t.to (Waits v) (plain_chart t) c ge n xs r

-- all columns have been lowered
pub all_begun : (g : List PlainForm) (w : List PlainToken) (i j : ℕ) (t : Chart) (v : Waiting) (k : ℕ) → length g ≤ k → ((c : ℕ) → c < k → IsHeld g w i j (Waits v) (plain_chart t) c) →
    AreHeld g w i j (Waits v) (plain_chart t)
all_begun g w i j t v k l h c = elim (cases_lt c k) [ inl lt ↦ h c lt | inr ge ↦ none_held g w i j (Waits v) (plain_chart t) c (omega arith) ]
