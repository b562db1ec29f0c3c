-- Values over a span that are taken from a span of the same tokens.
use Rattle.std.specs.Prelude.{min, option_map}
use Rattle.std.proofs.Common.{List, ap, arith, inl, inr, length, map, refl, sym, ℕ}
use Rattle.std.proofs.Common.{◌+◌, ◌-◌, ◌<◌, ◌∙◌, ◌≡◌, ◌≤◌}
use Rattle.std.proofs.lemmas.Bool.{cases_lt}
use Rattle.std.proofs.lemmas.List.{get_or_default}
use Rattle.std.proofs.lemmas.Option.{slice_get-map}
use Rattle.pv_model.specs.Plain.{PlainToken}
use Rattle.pv_model.specs.PlainForms.{plain_token}
use Rattle.pv_model.specs.declared.models.Token.{Token}
use Rattle.pv_rules.specs.Derivations.{Derives, by_rule, heaviest, sum_of}
use Rattle.pv_productive.specs.Tables.{no_size, size_at}
use Rattle.pv_productive.proofs.CutSums.{cut_few, cut_many}
use Rattle.pv_span.specs.Charts.{AreSettled, HasValue, IsAttainedChart, IsSettledAt}
use Rattle.pv_span.specs.Charts.{PlainChart, span_number, value_of}
use Rattle.pv_layout.specs.ColumnRules.{ColumnRule, cell}
use Rattle.pv_span.specs.DoneSpans.{rows_done}
use Rattle.pv_layout.specs.Forms.{PlainForm}
use Rattle.pv_span.specs.PlainForms.{DiffersInRow, IsAttainedSoFar, plain_chart}
use Rattle.pv_span.specs.Repeats.{AreSameTokens, AreSameFrom, StandAgain}
use Rattle.pv_span.specs.declared.charts.Chart.{Chart}
use Rattle.pv_span.specs.declared.repeats.Repeats.{Repeats}
use Rattle.pv_span.proofs.RowsAcrossColumns.{rows_count}
use Rattle.pv_layout.proofs.ColumnFacts.{column_spans}
use Rattle.pv_span.proofs.MovedDerivations.{derives_moved, value_moved}
use Rattle.pv_span.proofs.LoweredRows.{all_attained, at_hand, resound}

-- the row has the values over the span from q on that is as long
module _ (f : List PlainForm) (w : List PlainToken) (i j q : ℕ) (t : PlainChart) (row : List ℕ)
    (a : IsAttainedChart f w i j t) (room : q + (j - i) ≤ length w)
    (done : span_number t.tokens q (q + (j - i)) < length t.rows)
    (same : AreSameFrom w i q (j - i)) (sized : length row ≡ length t.row)
    (each : (s : ℕ) → size_at row s ≡ value_of t (cell s q (q + (j - i)))) where
  abbrev copied : PlainChart
  copied = record { tokens = t.tokens; rows = t.rows; row = row }

  has_value : (s : ℕ) → HasValue f w (cell s q (q + (j - i))) (value_of t (cell s q (q + (j - i))))
  has_value s = a.sound.attained s q (q + (j - i)) ((omega arith, room), done)

  derives_here : (s k : ℕ) → Derives (ColumnRule f w) k (cell s q (q + (j - i))) →
      Derives (ColumnRule f w) k (cell s i j)
  derives_here s k d =
      let l = a.span.0 in
      let h = a.span.1 in
      let m = derives_moved f w q i (j - i) (omega arith) (λ o b. sym (same o b)) k
      (cell s q (q + (j - i))) d (omega arith) (omega arith) in
      let x : i + (q - q) ≡ i = omega arith in
      let y : i + (q + (j - i) - q) ≡ j = omega arith in
      rw (x, y) at m

  value_here : (s : ℕ) → HasValue f w (cell s i j) (size_at row s)
  value_here s =
      let e = each s in
      let h = has_value s in
      rw e (h.0, λ l. let d = h.1 l in (d.0, derives_here s d.0 d.1, d.2))

  pub copied_attained : IsAttainedChart f w i j copied
  copied_attained = record {
    sound = resound f w t t.rows row a.sound.long (λ m l. get_or_default t.rows m row t.row l)
        (λ o m n d. (a.sound.attained o m n d, a.sound.settled o m n d));
    span = a.span;
    next = a.next;
    is_row = sized ∙ a.is_row;
    attained = value_here;
  }

  value_less : (s k : ℕ) → Derives (ColumnRule f w) k (cell s i j) →
      value_of copied (cell s i j) ≤ min heaviest k
  value_less s k d =
      let l = a.span.0 in
      let m = value_moved f w i q (j - i) room same t a.sound done k (cell s i j) d (omega arith)
      (omega arith) in
      let x : q + (i - i) ≡ q = omega arith in
      let v = rw x at m in
      let h = at_hand f w i j copied copied_attained s in
      let e = each s in
      omega arith

  pub copied_settled : (s : ℕ) → IsSettledAt f w copied (cell s i j)
  copied_settled s c xs r = elim (cases_lt (c + sum_of (value_of copied) xs) no_size) [
    | inl lt ↦ (
        let d = all_attained f w i j copied copied_attained xs
        (column_spans f w s i j c xs r).1 (omega arith) in
        let l = value_less s (c + d.0)
        (by_rule (c + d.0) c d.0 (cell s i j) xs refl r d.1) in
        let e = cut_few (c + sum_of (value_of copied) xs) lt in
        let z = d.2 in
        omega arith
        )
    | inr ge ↦ (
        let e = cut_many (c + sum_of (value_of copied) xs) ge in
        let h = at_hand f w i j copied copied_attained s in
        let b = (value_here s).0 in
        omega arith
        )
  ]

-- tokens that are the same at two places are so in their plain forms
plain_same : (word : List Token) (p q n : ℕ) → AreSameFrom word p q n →
    AreSameFrom (map plain_token word) p q n
plain_same word p q n same k l =
    slice_get-map plain_token word (p + k) ∙ ap (option_map plain_token) (same k l) ∙
    sym (slice_get-map plain_token word (q + k))

-- A row of a chart of the program that is taken from a span of the same tokens.
module _ (f : List PlainForm) (word : List Token) (r : Repeats) (t new : Chart)
    (a : IsAttainedSoFar f (map plain_token word) t) (again : StandAgain r t)
    (same : AreSameTokens word r) (d : DiffersInRow t new)
    (sized : length new.row.items ≡ length t.row.items)
    (each : (s : ℕ) → size_at new.row.items s ≡
    value_of (plain_chart t) (cell s r.again (r.again + (t.to - t.from)))) where
  room : r.again + (t.to - t.from) ≤ length (map plain_token word)
  room = let l = again.done.0 in let e = a.sound.long in omega arith

  in_rows : span_number t.tokens r.again (r.again + (t.to - t.from)) < length (rows_done t.done)
  in_rows = let l = again.done.1 in let e = rows_count t.done in omega arith

  same_here : AreSameFrom (map plain_token word) t.from r.again (t.to - t.from)
  same_here = plain_same word t.from r.again (t.to - t.from)
      (λ k l. let e = again.from in let m = again.few in
      rw e at (same k (omega arith)))

  same_rows : rows_done new.done ≡ rows_done t.done
  same_rows = ap rows_done d.3

  pub copy_attained : IsAttainedSoFar f (map plain_token word) new
  copy_attained = rw (d.0, d.1, d.2, same_rows)
      (copied_attained f (map plain_token word) t.from t.to r.again (plain_chart t) new.row.items a
      room in_rows same_here sized each)

  pub copy_settled : (n : ℕ) →
      AreSettled f (map plain_token word) new.from new.to n (plain_chart new)
  copy_settled n s l = rw (d.0, d.1, d.2, same_rows)
      (copied_settled f (map plain_token word) t.from t.to r.again (plain_chart t) new.row.items a
      room in_rows same_here sized each s)
