use Rattle.std.proofs.Common.{◌≡◌, ◌+◌, ◌≤◌, ◌++◌, ◌∷◌, ℕ, List, length, map, drop, refl, sym, ap}
use Rattle.std.proofs.Common.{◌∙◌, subst, arith}
use Rattle.std.proofs.lemmas.List.{drop_more, drop_all, length-map}
use Rattle.pv_model.specs.Plain.{PlainToken}
use Rattle.pv_model.specs.PlainForms.{plain_part, plain_token}
use Rattle.pv_rematch.specs.Walks.{Wait}
use Rattle.pv_rematch.specs.declared.points.Point.{Point}
use Rattle.pv_rematch.proofs.KeptWalks.{read_token, walked_on, walked_lost, walked_all, wait_passed}
use Rattle.pv_rematch.proofs.KeptWalks.{ok_three}
use Rattle.pv_rematch.proofs.walkers.Walker.walk.Goals as goal
use Rattle.pv_rematch.proofs.walkers.Walker.walk.Goals.{then-next-points+then-ahead-eq0+else-meets}
use Rattle.pv_rematch.proofs.walkers.Walker.walk.Goals.{else-next-points, then-ahead-eq0-2}
use Rattle.pv_rematch.proofs.walkers.Walker.walk.Goals.{else-ahead-eq0-2}

pub returns-then-meets-clause-walked : goal.returns-then-meets-clause-walked
returns-then-meets-clause-walked c =
    let p = plain_part c.args.part.now in
    let v = map plain_token c.args.rest.now in
    let i = c.loop-token.token-index in
    let ps = c.args.points.now in
    let next = c.loop-token.next in
    let r = c.index-points-next.result in
    let lt : i ≤ length v =
    omega (arith, c.loop-token-test.true, length-map c.args.rest.now plain_token) in
    let at : drop next ps ≡ r ∷ drop (next + 1) ps =
    drop_more ps next r c.if-next-points.true
    ∙ ap (λ (z : Point). z ∷ drop (next + 1) ps) (sym c.index-points-next.is) in
    let m = c.if-meets.ensures in
    ok_three _ _ _ _ c.end_at.result
    (λ f pass allow put u a x h w.
    let Q : ℕ → Type 0 = λ n. Wait p (x ++ v) c.args.was_allowed n (drop next ps) in
    let R : List Point → Type 0 = λ l. Wait p (x ++ v) c.args.was_allowed (length x + i) l in
    let here =
    subst R at (subst Q (omega (arith, c.if-ahead-eq0.true)) (c.loop-token.invariant.wait x w)) in
    walked_on p u a x v i c.loop-token.self r _ (drop (next + 1) ps) ps c.args.was_allowed f lt
    (c.loop-token.invariant.read u a h) here (m.start refl) (m.end refl)
    (m.positions refl) refl refl
    (ap (λ (n : ℕ). drop n ps) pass) allow put)
    c.end_at.ensures.passed c.end_at.ensures.allowed c.end_at.ensures.points

pub returns-then-not-branch-clause-walked : goal.returns-then-not-branch-clause-walked
returns-then-not-branch-clause-walked c = λ u a x h w.
    let p = plain_part c.args.part.now in
    let n = c.loop-token.token-index in
    let k = c.loop-token.invariant.read u a h in
    walked_lost p u a c.args.rest.now n _ c.loop-token.self c.args.points.now
    c.read.new.self.points.items c.end.result c.loop-token-test.true c.end.ensures.passed
    c.end.ensures.allowed c.end.ensures.points
    (c.in_ok-read.ensures.points c.if-not-branch.true) k
    (c.in_ok-read.ensures.lost u _ _ k c.if-not-branch.true)

pub loop-token-preserved : goal.loop-token-preserved
loop-token-preserved c =
    let p = plain_part c.args.part.now in
    let v = map plain_token c.args.rest.now in
    let i = c.loop-token.token-index in
    let ps = c.args.points.now in
    let inv = c.loop-token.invariant in
    let joined : (c.if-next-points.next ≤ length ps) ×
    ((x : List PlainToken) → Wait p (x ++ v) c.args.was_allowed (length x + c.args.ahead) ps →
    Wait p (x ++ v) c.args.was_allowed (length x + i + c.if-next-points.ahead)
    (drop c.if-next-points.next ps)) =
    elim c.if-next-points.branch [
      | then-next-points+then-ahead-eq0+else-meets b ↦ (
        omega (arith, b.next-is, b.if-next-points.true),
        λ x w.
            let Q : ℕ → Type 0 =
            λ n. Wait p (x ++ v) c.args.was_allowed
            (length x + i + c.if-next-points.ahead) (drop n ps) in
            let g = b.gap_at-ahead.ensures in
            subst Q (sym b.next-is)
            (wait_passed p (x ++ v) c.args.was_allowed (length x + i + c.loop-token.ahead) _ ps
            c.loop-token.next b.gap_at-ahead.result b.if-next-points.true g
            (omega (arith, b.ahead-is, b.if-ahead-eq0.true)) (inv.wait x w)),
      )
      | else-next-points b ↦ (
        omega (arith, b.next-is, inv.next),
        λ x w.
            let Q : ℕ → Type 0 =
            λ n. Wait p (x ++ v) c.args.was_allowed
            (length x + i + c.if-next-points.ahead) (drop n ps) in
            let R : ℕ → Type 0 =
            λ n. Wait p (x ++ v) c.args.was_allowed (length x + i + n)
            (drop c.loop-token.next ps) in
            subst Q (sym b.next-is) (subst R (sym b.ahead-is) (inv.wait x w)),
      )
    ] in
    let moved : (c.if-ahead-eq0-2.next ≤ length ps) ×
    ((x : List PlainToken) →
    Wait p (x ++ v) c.args.was_allowed (length x + i + c.if-next-points.ahead)
    (drop c.if-next-points.next ps) →
    Wait p (x ++ v) c.args.was_allowed (length x + (i + 1) + c.if-ahead-eq0-2.ahead)
    (drop c.if-ahead-eq0-2.next ps)) =
    elim c.if-ahead-eq0-2.branch [
      | then-ahead-eq0-2 b ↦ (
        omega (arith, b.next-is),
        λ x w.
            let Q : List Point → Type 0 =
            λ l. Wait p (x ++ v) c.args.was_allowed
            (length x + (i + 1) + c.if-ahead-eq0-2.ahead) l in
            subst Q (sym (drop_all c.if-ahead-eq0-2.next ps (omega (arith, b.next-is)))) tt,
      )
      | else-ahead-eq0-2 b ↦ (
        omega (arith, b.next-is, joined.0),
        λ x w.
            let Q : ℕ → Type 0 =
            λ n. Wait p (x ++ v) c.args.was_allowed
            (length x + (i + 1) + c.if-ahead-eq0-2.ahead) (drop n ps) in
            let R : ℕ → Type 0 =
            λ n. Wait p (x ++ v) c.args.was_allowed n (drop c.if-next-points.next ps) in
            subst Q (sym b.next-is) (subst R (omega (arith, b.ahead-is, b.if-ahead-eq0-2.false)) w),
      )
    ] in
    record {
      count = c.read.ensures.count;
      next = moved.0;
      read =
          λ u a h. read_token p u a c.args.rest.now i _ _ c.loop-token-test.true
          (c.in_ok-read.ensures.next u _ (inv.read u a h) c.if-not-branch.false);
      wait = λ x w. moved.1 x (joined.1 x w);
    }

pub returns-clause-walked : goal.returns-clause-walked
returns-clause-walked c = λ u a x h w.
    let v = map plain_token c.args.rest.now in
    walked_all (plain_part c.args.part.now) u a v c.loop-token.token-index c.loop-token.self
    c.args.points.now c.end-2.result
    (omega (arith, c.loop-token-test.false, length-map c.args.rest.now plain_token))
    c.end-2.ensures.passed c.end-2.ensures.allowed c.end-2.ensures.points
    (c.loop-token.invariant.read u a h)
