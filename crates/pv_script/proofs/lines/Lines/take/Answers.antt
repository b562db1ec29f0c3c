use Rattle.std.proofs.Common.{◌≡◌, ◌<◌, ◌≤◌, suc, [], ◌++◌, length, take, drop, true, sym, ap, ◌∙◌, arith}
use Rattle.std.proofs.lemmas.Grind.{common_steps}
use Rattle.std.proofs.lemmas.List.{append-nil, length-take}
use Rattle.pv_script.specs.TakenLines.{HeldLine, MAX_LINE_BYTES, begun_line}
use Rattle.pv_script.proofs.Feeds.{all_free, front_free, cut_at}
use Rattle.pv_script.proofs.lines.Lines.take.Goals as goal

pub returns-then-add : goal.returns-then-add
returns-then-add c =
    let begun : c.begin.new.self.bytes ≡ begun_line c.args.self.now = ap (λ (h : HeldLine). h.bytes) c.begin.ensures in
    let within : length (c.begin.new.self.bytes ++ c.args.piece.now) ≤ MAX_LINE_BYTES = grind (arith, c.add.ensures.fits, c.if-add.true) in
    record {
      no_feed = all_free c.args.piece.now c.in-None.ensures;
      within = rw begun at within;
      held = rw (c.if-add.true, c.begin.ensures) at c.add.ensures.added;
    }

pub returns-else-add : goal.returns-else-add
returns-else-add c =
    let begun : c.begin.new.self.bytes ≡ begun_line c.args.self.now = ap (λ (h : HeldLine). h.bytes) c.begin.ensures in
    let beyond : MAX_LINE_BYTES < length (c.begin.new.self.bytes ++ c.args.piece.now) = grind (arith, c.add.ensures.fits, c.if-add.false) in
    record {
      front = c.args.piece.now;
      rest = [];
      is_cut = sym (append-nil c.args.piece.now);
      no_feed = all_free c.args.piece.now c.in-None.ensures;
      beyond = rw begun at beyond;
      held = rw (c.if-add.false, c.begin.ensures) at c.add.ensures.added;
    }

pub returns-then-add-2 : goal.returns-then-add-2
returns-then-add-2 c =
    let found = c.in-Some.ensures in
    let front = take c.in-Some.at c.args.piece.now in
    let begun : c.begin.new.self.bytes ≡ begun_line c.args.self.now = ap (λ (h : HeldLine). h.bytes) c.begin.ensures in
    let within : length (c.begin.new.self.bytes ++ front) ≤ MAX_LINE_BYTES = grind (arith, c.add-in-Some.ensures.fits, c.if-add-2.true) in
    let added = rw (c.if-add-2.true, c.begin.ensures) at c.add-in-Some.ensures.added in
    record {
      front = front;
      rest = drop (suc c.in-Some.at) c.args.piece.now;
      is_cut = cut_at c.args.piece.now c.in-Some.at found.0.high found.1;
      no_feed = front_free c.args.piece.now c.in-Some.at found.0.before;
      is_eaten = omega (arith, found.0.high, length-take c.in-Some.at c.args.piece.now);
      within = rw begun at within;
      held = ap (λ (h : HeldLine). record { bytes = h.bytes; whole = true }) (c.self.view_is ∙ added);
    }

pub returns-else-add-2 : goal.returns-else-add-2
returns-else-add-2 c =
    let found = c.in-Some.ensures in
    let front = take c.in-Some.at c.args.piece.now in
    let begun : c.begin.new.self.bytes ≡ begun_line c.args.self.now = ap (λ (h : HeldLine). h.bytes) c.begin.ensures in
    let beyond : MAX_LINE_BYTES < length (c.begin.new.self.bytes ++ front) = grind (arith, c.add-in-Some.ensures.fits, c.if-add-2.false) in
    record {
      front = front;
      rest = drop c.in-Some.at c.args.piece.now;
      is_cut = grind (arith, common_steps);
      no_feed = front_free c.args.piece.now c.in-Some.at found.0.before;
      beyond = rw begun at beyond;
      held = rw (c.if-add-2.false, c.begin.ensures) at c.add-in-Some.ensures.added;
    }
