use Rattle.std.proofs.Common.{ap, arith, inl, inr, length, length-append, map, refl, subst, sym, ◌<◌, ◌∙◌, ◌≡◌}
use Rattle.std.proofs.lemmas.List.{length-map}
use Rattle.std.proofs.lemmas.Bool.{cases_lt}
use Rattle.pv_model.specs.PlainForms.{plain_token}
use Rattle.pv_span.specs.Charts.{AreSettled}
use Rattle.pv_span.specs.DoneSpans.{rows_done}
use Rattle.pv_layout.specs.FormForms.{plain_all}
use Rattle.pv_span.specs.PlainForms.{plain_chart}
use Rattle.pv_span.proofs.RowsAcrossColumns.{rows_count}
use Rattle.pv_span.proofs.FinishedSpans.{filled, put_next, ready_begun, room_left}
use Rattle.pv_span.proofs.fill.fill_spans.Goals as goal

pub fill_next-requires-clause-attained : goal.fill_next-requires-clause-attained
fill_next-requires-clause-attained c =
    let t = c.spans.chart in
    let n = rows_count t.done in let e = t.spans in
    let room : t.done.count < t.done.spans = elim (cases_lt t.done.count t.done.spans) [
      | inl lt ↦ lt
      | inr ge ↦ absurd (let k = c.is_full.ensures.1 (omega arith) in let q = c.spans-test.true in cc)
    ] in
    ready_begun (plain_all c.args.forms.now) (map plain_token c.args.word.now) t.from t.to (length (rows_done t.done)) (plain_chart t) c.spans.invariant.done
    (let q = t.next room in omega arith) t.place.0 t.place.1

pub fill_next-requires-clause-blank : goal.fill_next-requires-clause-blank
fill_next-requires-clause-blank c = c.spans.invariant.done.blank

pub next-requires-clause-room : goal.next-requires-clause-room
next-requires-clause-room c =
    let t = c.fill_next.new.chart in
    room_left (plain_all c.args.forms.now) (map plain_token c.args.word.now) t.from t.to (plain_chart t) c.fill_next.ensures.attained

pub next-requires-clause-few : goal.next-requires-clause-few
next-requires-clause-few c = λ s. (c.fill_next.ensures.attained.attained s).0

pub spans-smaller : goal.spans-smaller
spans-smaller c =
    let t = c.fill_next.new.chart in
    let same = c.fill_next.ensures.same in
    let tokens_same = same.2 in
    let done_same = same.3 in
    let room = room_left (plain_all c.args.forms.now) (map plain_token c.args.word.now) t.from t.to (plain_chart t) c.fill_next.ensures.attained in
    let rows = ap (λ x. length x.rows) c.next.ensures.next in
    let more = simp length-append at rows in
    let tokens = ap (λ x. x.tokens) c.next.ensures.next in
    rw (← tokens_same, ← done_same, tokens) (omega arith)

pub spans-preserved : goal.spans-preserved
spans-preserved c =
    let t = c.fill_next.new.chart in
    let n : length (plain_all c.args.forms.now) ≡ length c.args.forms.now = simp length-map in
    record {
      done = put_next (plain_all c.args.forms.now) (map plain_token c.args.word.now) t.from t.to (length (rows_done c.next.new.self.done)) (plain_chart t) (plain_chart c.next.new.self)
          c.next.new.self.row.items c.fill_next.ensures.attained
          (subst (λ z. AreSettled (plain_all c.args.forms.now) (map plain_token c.args.word.now)
          t.from t.to z (plain_chart t)) (sym n) c.in_ok-fill_next.ensures.settled)
          c.next.ensures.sized c.next.ensures.blank c.next.ensures.next refl;
      long = c.fill_next.ensures.long ∙ c.spans.invariant.long;
      repeats = c.go_to.ensures;
    }

pub returns : goal.returns
returns c =
    let t = c.spans.chart in
    filled (plain_all c.args.forms.now) (map plain_token c.args.word.now) (length (rows_done t.done)) (plain_chart t) c.spans.invariant.done
    (let q = c.spans-test.false in c.is_full.ensures.0 cc)

pub go_to-requires-clause-repeats : goal.go_to-requires-clause-repeats
go_to-requires-clause-repeats c = c.spans.invariant.repeats
