use Rattle.std.proofs.Common.{◌≡◌, ◌-◌, [], length, map, take, drop, refl, sym, ap, ◌∙◌, subst}
use Rattle.std.proofs.Common.{arith}
use Rattle.std.proofs.lemmas.List.{take_rest}
use Rattle.pv_model.specs.PlainForms.{plain_part, plain_token}
use Rattle.pv_rematch.specs.States.{IsAfter}
use Rattle.pv_rematch.specs.declared.states.State.{State}
use Rattle.pv_rematch.proofs.TurnedPoints.{turn_lost, turn_walked, wait_parts}
use Rattle.pv_rematch.proofs.KeptWalks.{read_none}
use Rattle.pv_rematch.proofs.stretches.Points.walk_on.Goals as goal

pub returns-then-not-branch : goal.returns-then-not-branch
returns-then-not-branch c = λ x k after wait.
    let p = plain_part c.args.part.now in
    let ts = c.args.word.now in
    let Q : State → Type 0 = λ s. IsAfter p k.before s in
    let none =
    read_none p k.before c.at-walker.result c.at-walker.ensures.since c.at-walker.ensures.points
    (subst Q (sym c.at-walker.ensures.state) after) in
    let read = c.in_ok-read_all.ensures in
    let rest = map plain_token (drop c.args.end ts) in
    let all : c.len.result ≡ length c.args.self.now.items.items =
    omega (arith, c.len.ensures, c.args.self.now.items.ok.0) in
    turn_lost p ts c.args.self.now.items.items _ c.args.start.known.place c.args.end k
    c.requires.changed (omega (arith, c.requires.order, c.requires.old, all)) all refl
    (read.points k.before [] rest none c.if-not-branch.true)
    (read.lost k.before [] rest none c.if-not-branch.true)

pub returns : goal.returns
returns c = λ x k after wait.
    let p = plain_part c.args.part.now in
    let ts = c.args.word.now in
    let ps = c.args.self.now.items.items in
    let n = c.args.old.number in
    let d = c.deref.result.now in
    let Q : State → Type 0 = λ s. IsAfter p k.before s in
    let none =
    read_none p k.before c.at-walker.result c.at-walker.ensures.since c.at-walker.ensures.points
    (subst Q (sym c.at-walker.ensures.state) after) in
    let read = c.in_ok-read_all.ensures.next k.before [] none c.if-not-branch.false in
    let rest : take (length ts - c.args.end) (drop c.args.end ts) ≡ drop c.args.end ts =
    take_rest ts c.args.end in
    let old : take (length d - n) (drop n d) ≡ drop n ps =
    take_rest d n ∙ ap (drop n) c.deref.ensures.value in
    turn_walked p ts _ ps _ _ c.in_ok-walked.walked c.args.start.known.place c.args.end n k
    c.requires.changed c.requires.order c.requires.old rest old
    c.in_ok-walked.ensures.passed refl refl refl
    (c.in_ok-walked.ensures.walked k.before _ x read (wait_parts p x _ _ _ _ _ _ rest old wait))
