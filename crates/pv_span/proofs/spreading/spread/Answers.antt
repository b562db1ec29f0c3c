use Rattle.std.proofs.Common.{List, length, map, ℕ, ◌∙◌, ◌≡◌}
use Rattle.pv_model.specs.Plain.{PlainToken}
use Rattle.pv_model.specs.PlainForms.{plain_token}
use Rattle.pv_layout.specs.FormForms.{plain_all}
use Rattle.pv_layout.specs.Forms.{PlainForm}
use Rattle.pv_span.specs.PlainForms.{plain_chart}
use Rattle.pv_span.specs.Waits.{AreHeld, Waits}
use Rattle.pv_span.specs.declared.charts.Chart.{Chart}
use Rattle.pv_span.specs.declared.waiting.Waiting.{Waiting}
use Rattle.pv_span.proofs.WaitingColumns.{held_settled}
use Rattle.pv_span.proofs.spreading.spread.Goals as goal
use Rattle.pv_span.proofs.spreading.spread.Goals.{else-loop-test}
use Rattle.pv_span.proofs.spreading.spread.Goals.{then-loop-test+in_ok-spread_next+then-not-branch}

pub begin-requires-clause-long : goal.begin-requires-clause-long
begin-requires-clause-long c = c.clear.ensures.long ∙ c.requires.long

pub begin-requires-clause-blank : goal.begin-requires-clause-blank
begin-requires-clause-blank c = c.requires.blank

pub loop-init : goal.loop-init
loop-init c = record {
  attained = c.begin.ensures.attained;
  same = c.begin.ensures.same;
  long = c.begin.ensures.long ∙ c.clear.ensures.long;
  held = c.in_ok-begin.ensures.held;
}

pub spread_next-requires-clause-held : goal.spread_next-requires-clause-held
spread_next-requires-clause-held c = let i = c.loop.invariant in rw (i.same.0, i.same.1) i.held

pub loop-preserved : goal.loop-preserved
loop-preserved c =
    let i = c.loop.invariant in
    let p = c.spread_next.ensures.same in
    record {
      attained = c.spread_next.ensures.attained;
      same = (p.0 ∙ i.same.0, p.1 ∙ i.same.1, p.2 ∙ i.same.2, p.3 ∙ i.same.3);
      long = c.spread_next.ensures.long ∙ i.long;
      held = rw (i.same.0, i.same.1) at c.in_ok-spread_next.ensures.held;
    }

held_moved : (f : List PlainForm) (w : List PlainToken) (i j : ℕ) (v u : Waiting) (t s : Chart) →
    v ≡ u → t ≡ s →
    AreHeld f w i j (Waits u) (plain_chart s) → AreHeld f w i j (Waits v) (plain_chart t)
held_moved f w i j v u t s e h held = rw (e, h) held

pub returns-clause-settled : goal.returns-clause-settled
returns-clause-settled c =
    λ e. held_settled f word t.from t.to (Waits c.loop-test.waiting) (plain_chart c.loop-test.chart)
    (length c.args.forms.now)
    (c.is_empty-2.ensures e) held
  where
    f : List PlainForm
    f = plain_all c.args.forms.now

    word : List PlainToken
    word = map plain_token c.args.word.now

    t : Chart
    t = c.args.chart.now

    held : AreHeld f word t.from t.to (Waits c.loop-test.waiting) (plain_chart c.loop-test.chart)
    held = elim c.loop-test.branch [
      | else-loop-test w ↦
          held_moved f word t.from t.to _ _ _ _ w.waiting-is w.chart-is c.loop.invariant.held
      | then-loop-test+in_ok-spread_next+then-not-branch w ↦ (let i = c.loop.invariant in
          held_moved f word t.from t.to _ _ _ _ w.waiting-is w.chart-is
          (rw (i.same.0, i.same.1) at w.in_ok-spread_next.ensures.held))
    ]
