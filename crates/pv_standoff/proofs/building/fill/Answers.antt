use Rattle.std.proofs.Common.{suc, max, ◌≡◌, ◌≤◌, ◌<◌, ◌-◌, ◌+◌, ℕ, List, false, [], ◌∷◌, ◌++◌, length, take, drop, refl, sym, ◌∙◌, ap, subst, arith}
use Rattle.std.specs.List.{AllByRecursion}
use Rattle.std.proofs.lemmas.List.{nil_from_length, take_all, length-map}
use Rattle.pv_chars.specs.Texts.{joined, holds_close_mark}
use Rattle.pv_chars.specs.Units.{AllUnits, units_in}
use Rattle.pv_tree.specs.Legal.{MAX_DEPTH}
use Rattle.pv_tree.specs.Marks.{blank_mark}
use Rattle.pv_tree.specs.Plain.{depth_of, tagged, element, forest_of}
use Rattle.pv_standoff.specs.Ranges.{AreSorted, NoneCrossLater, IsInsideText}
use Rattle.pv_standoff.specs.declared.ranges.Range.{Range}
use Rattle.pv_standoff.proofs.Stacks.{close_depth, end_depth}
use Rattle.pv_standoff.specs.Stacks.{PlainOpen, stack_depth, add, write, tree_of, opened, with_text}
use Rattle.pv_standoff.specs.PlainForms.{plain_open, plain_outer, seen, IsRootOver}
use Rattle.pv_standoff.specs.Texts.{SpellsUnits}
use Rattle.pv_standoff.proofs.BuiltDocuments.{IsAt, at_most, close_at, next_at, end_at, root_holds}
use Rattle.pv_standoff.proofs.BuiltDocuments.{inside_mid, drop_next, take_next, split_next}
use Rattle.pv_standoff.proofs.BuiltDocuments.{outer_push}
use Rattle.pv_standoff.proofs.BuiltDocuments.{outer_length, shallow_at, open_shallow, too_deep}
use Rattle.pv_standoff.proofs.BuiltDocuments.{rest_spells, rest_within, rest_taken, rest_more}
use Rattle.pv_standoff.proofs.building.fill.Goals as goal
use Rattle.pv_standoff.proofs.building.fill.Goals.{else-ended-test, then-ended-test+in_default}

abbrev spells : (text : List (List ℕ)) → AllUnits text → holds_close_mark text ≡ false → SpellsUnits (joined text) text
spells text u n = record { are_units = u; whole = refl; none = n }

pub ended-init : goal.ended-init
ended-init c = (
  c.each.invariant.is_at,
  (let d = drop_next c.args.sorted.now c.each.range-index c.range-item.result c.each-test.true c.range-item.is in
      (subst (λ z. AllByRecursion (λ x. c.each.at ≤ x.from) z) d c.each.invariant.later).0),
  (let l = outer_length c.each.outer.items in
      let b = c.if-len-ge-DEEPEST.false in
      let e = c.len.ensures in
      let k = c.each.outer.ok in
      shallow_at (stack_depth (plain_open c.each.top ∷ plain_outer c.each.outer.items)) (length (plain_outer c.each.outer.items)) c.each.invariant.shallow (omega (arith, l, b, e, k))),
  c.each.invariant.left,
)

pub close-requires-clause-units : goal.close-requires-clause-units
close-requires-clause-units c = rest_spells c.args.text.now (spells c.args.text.now c.bytes-rest.ensures.legal c.requires.no_close_mark) c.ended.at c.ended.rest.now c.ended.invariant.3

pub close-requires-clause-within : goal.close-requires-clause-within
close-requires-clause-within c = rest_within c.args.text.now (spells c.args.text.now c.bytes-rest.ensures.legal c.requires.no_close_mark) c.ended.at c.ended.top.to c.ended.rest.now c.ended.invariant.3
    (at_most c.args.top.now.name c.args.text.now _ _ _ _ (c.ended.invariant.0)).1

pub ended-preserved : goal.ended-preserved
ended-preserved c =
    let fs = plain_outer c.pop.new.self.items in
    let done = take c.each.range-index (seen c.args.sorted.now) in
    let o = ap plain_outer c.in-Some.ensures.items ∙ outer_push c.pop.new.self.items c.in-Some.next in
    let a = subst (λ z. IsAt c.args.top.now.name c.args.text.now done (plain_open c.ended.top) z
    c.ended.at) o c.ended.invariant.0 in
    let s = spells c.args.text.now c.bytes-rest.ensures.legal c.requires.no_close_mark in
    let m = at_most c.args.top.now.name c.args.text.now done (plain_open c.ended.top)
    (plain_open c.in-Some.next ∷ fs) c.ended.at a in
    let k = c.in_ok-more.ensures.kids ∙ ap (λ z. add (plain_open c.in-Some.next)
    (tree_of (write (plain_open c.ended.top) z)))
    (rest_taken c.args.text.now s c.ended.at c.ended.top.to c.ended.rest.now c.ended.invariant.3) in (
      subst (λ z. IsAt c.args.top.now.name c.args.text.now done z fs c.ended.top.to) (sym k)
          (close_at c.args.top.now.name c.args.text.now done (plain_open c.ended.top)
          (plain_open c.in-Some.next) fs c.ended.at a),
      c.ended-test.true,
      subst (λ z. z ≤ MAX_DEPTH)
          (sym (ap (λ z. stack_depth (z ∷ fs)) k ∙ close_depth (plain_open c.ended.top) (plain_open c.in-Some.next) fs (take (c.ended.top.to - c.ended.at) (drop c.ended.at c.args.text.now))
          ∙ ap (λ z. stack_depth (plain_open c.ended.top ∷ z)) (sym o)))
          c.ended.invariant.2,
      rest_more c.args.text.now s c.ended.at c.ended.top.to c.ended.rest.now c.in_ok-more.more.now
          m.0 c.ended.invariant.3 c.in_ok-more.ensures.left,
    )

pub write-requires-clause-units : goal.write-requires-clause-units
write-requires-clause-units c = rest_spells c.args.text.now (spells c.args.text.now c.bytes-rest.ensures.legal c.requires.no_close_mark) c.ended.at c.ended.rest.now c.ended.invariant.3

pub write-requires-clause-within : goal.write-requires-clause-within
write-requires-clause-within c =
    let i = c.each.range-index in
    let d = split_next c.args.sorted.now i c.range-item.result c.each-test.true c.range-item.is in
    let h = inside_mid (length c.args.text.now) (take i (seen c.args.sorted.now)) (drop (i + 1) (seen c.args.sorted.now)) c.range-item.result.now
    (subst (λ z. AllByRecursion (IsInsideText (length c.args.text.now)) z) d c.requires.inside) in
    rest_within c.args.text.now (spells c.args.text.now c.bytes-rest.ensures.legal
    c.requires.no_close_mark) c.ended.at c.range-item.result.now.from c.ended.rest.now
    c.ended.invariant.3 (omega (arith, h.0, h.1))

pub each-preserved : goal.each-preserved
each-preserved c = record {
  is_at = subst (λ z. IsAt c.args.top.now.name c.args.text.now z (plain_open c.replace.new.dest)
      (plain_outer c.push.new.self.items) c.range-item.result.now.from)
      (sym (take_next c.args.sorted.now c.each.range-index c.range-item.result c.each-test.true
      c.range-item.is))
      (subst (λ z. IsAt c.args.top.now.name c.args.text.now (take c.each.range-index
      (seen c.args.sorted.now) ++ c.range-item.result.now ∷ []) z
      (plain_outer c.push.new.self.items) c.range-item.result.now.from) (sym new_top)
      (subst (λ z. IsAt c.args.top.now.name c.args.text.now (take c.each.range-index
      (seen c.args.sorted.now) ++ c.range-item.result.now ∷ []) (opened c.range-item.result.now)
      z c.range-item.result.now.from) (sym new_outer) step.0));
  left = rest_more c.args.text.now known c.ended.at c.range-item.result.now.from c.ended.rest.now c.in_ok-rest.rest.now c.ended.invariant.1 c.ended.invariant.3 c.in_ok-rest.ensures.left;
  later = step.1;
  shallow = subst (λ z. stack_depth (plain_open c.replace.new.dest ∷ z) ≤ max MAX_DEPTH (suc (length z))) (sym new_outer)
      (subst (λ z. stack_depth (z ∷ write (plain_open c.ended.top)
      (take (c.range-item.result.now.from - c.ended.at)
      (drop c.ended.at c.args.text.now)) ∷ plain_outer c.ended.outer.items) ≤ max MAX_DEPTH
      (suc (length (write (plain_open c.ended.top)
      (take (c.range-item.result.now.from - c.ended.at)
      (drop c.ended.at c.args.text.now)) ∷ plain_outer c.ended.outer.items)))) (sym new_top)
      (open_shallow (plain_open c.ended.top) (plain_outer c.ended.outer.items)
      (take (c.range-item.result.now.from - c.ended.at) (drop c.ended.at c.args.text.now))
      c.range-item.result.now c.ended.invariant.2));
}
  where
    known : SpellsUnits (joined c.args.text.now) c.args.text.now
    known = spells c.args.text.now c.bytes-rest.ensures.legal c.requires.no_close_mark

    written : plain_open c.write.new.self ≡ write (plain_open c.ended.top) (take (c.range-item.result.now.from - c.ended.at) (drop c.ended.at c.args.text.now))
    written = c.in_ok-rest.ensures.kids ∙ ap (write (plain_open c.ended.top)) (rest_taken c.args.text.now known c.ended.at c.range-item.result.now.from c.ended.rest.now c.ended.invariant.3)

    split : seen c.args.sorted.now ≡ take c.each.range-index (seen c.args.sorted.now) ++ c.range-item.result.now ∷ drop (c.each.range-index + 1) (seen c.args.sorted.now)
    split = split_next c.args.sorted.now c.each.range-index c.range-item.result c.each-test.true c.range-item.is

    ended : (c.range-item.result.now.from < c.ended.top.to) × (c.ended-test.outer.items ≡ c.ended.outer.items)
    ended = elim c.ended-test.branch [
      | else-ended-test w ↦ (w.ended-test.false, ap (λ v. v.items) w.outer-is)
      | then-ended-test+in_default w ↦ (let z = nil_from_length c.ended.outer.items (let n = w.in_default.ensures.cases in let k = c.ended.outer.ok in omega (arith, n.0, k)) in
          let a = subst (λ x. IsAt c.args.top.now.name c.args.text.now
          (take c.each.range-index (seen c.args.sorted.now)) (plain_open c.ended.top)
          (plain_outer x) c.ended.at) z c.ended.invariant.0 in
          let h = root_holds c.args.top.now.name c.args.text.now
          (take c.each.range-index (seen c.args.sorted.now)) (plain_open c.ended.top)
          c.ended.at c.range-item.result.now a
          (inside_mid (length c.args.text.now) _ _ c.range-item.result.now (subst (λ z. AllByRecursion (IsInsideText (length c.args.text.now)) z) split c.requires.inside)) in
          absurd (omega (arith, h, w.ended-test.true)))
    ]

    new_outer : plain_outer c.push.new.self.items ≡ write (plain_open c.ended.top)
        (take (c.range-item.result.now.from - c.ended.at)
        (drop c.ended.at c.args.text.now)) ∷ plain_outer c.ended.outer.items
    new_outer = ap plain_outer c.in_ok-push.ensures.items ∙ outer_push c.ended-test.outer.items c.replace.result
        ∙ ap (λ z. z ∷ plain_outer c.ended-test.outer.items) (ap plain_open c.replace.ensures.value ∙ written)
        ∙ ap (λ z. write (plain_open c.ended.top) (take (c.range-item.result.now.from - c.ended.at) (drop c.ended.at c.args.text.now)) ∷ plain_outer z) ended.1

    new_top : plain_open c.replace.new.dest ≡ opened c.range-item.result.now
    new_top = ap plain_open c.replace.ensures.after ∙ c.in_ok-opened.ensures

    step : IsAt c.args.top.now.name c.args.text.now
        (take c.each.range-index (seen c.args.sorted.now)
        ++ c.range-item.result.now ∷ []) (opened c.range-item.result.now)
        (write (plain_open c.ended.top) (take (c.range-item.result.now.from - c.ended.at)
        (drop c.ended.at c.args.text.now)) ∷ plain_outer c.ended.outer.items)
        c.range-item.result.now.from × AllByRecursion (λ x. c.range-item.result.now.from ≤ x.from)
        (drop (c.each.range-index + 1) (seen c.args.sorted.now))
    step =
        next_at c.args.top.now.name c.args.text.now
        (take c.each.range-index (seen c.args.sorted.now))
        (drop (c.each.range-index + 1) (seen c.args.sorted.now)) (plain_open c.ended.top)
        (plain_outer c.ended.outer.items) c.ended.at c.range-item.result.now c.ended.invariant.0
        c.ended.invariant.1 ended.0
        (subst (λ z. AllByRecursion (IsInsideText (length c.args.text.now)) z) split c.requires.inside) (subst AreSorted split c.requires.in_order) (subst NoneCrossLater split c.requires.none_cross)

pub close-requires-in-Some-pop-clause-units : goal.close-requires-in-Some-pop-clause-units
close-requires-in-Some-pop-clause-units c = rest_spells c.args.text.now (spells c.args.text.now c.bytes-rest.ensures.legal c.requires.no_close_mark) c.left.at c.left.rest.now c.left.invariant.2

pub close-requires-in-Some-pop-clause-within : goal.close-requires-in-Some-pop-clause-within
close-requires-in-Some-pop-clause-within c = rest_within c.args.text.now
    (spells c.args.text.now c.bytes-rest.ensures.legal c.requires.no_close_mark) c.left.at
    c.left.top.to c.left.rest.now c.left.invariant.2
    (at_most c.args.top.now.name c.args.text.now _ _ _ _ c.left.invariant.0).1

pub left-preserved : goal.left-preserved
left-preserved c =
    let fs = plain_outer c.pop-in-left.new.self.items in
    let done = seen c.args.sorted.now in
    let o = ap plain_outer c.in-Some-pop.ensures.items ∙ outer_push c.pop-in-left.new.self.items c.in-Some-pop.next in
    let a = subst (λ z. IsAt c.args.top.now.name c.args.text.now done (plain_open c.left.top) z
    c.left.at) o c.left.invariant.0 in
    let s = spells c.args.text.now c.bytes-rest.ensures.legal c.requires.no_close_mark in
    let m = at_most c.args.top.now.name c.args.text.now done (plain_open c.left.top)
    (plain_open c.in-Some-pop.next ∷ fs) c.left.at a in
    let k = c.in_ok-more-2.ensures.kids ∙ ap (λ z. add (plain_open c.in-Some-pop.next)
    (tree_of (write (plain_open c.left.top) z)))
    (rest_taken c.args.text.now s c.left.at c.left.top.to c.left.rest.now c.left.invariant.2) in (
      subst (λ z. IsAt c.args.top.now.name c.args.text.now done z fs c.left.top.to) (sym k)
          (close_at c.args.top.now.name c.args.text.now done (plain_open c.left.top)
          (plain_open c.in-Some-pop.next) fs c.left.at a),
      subst (λ z. z ≤ MAX_DEPTH)
          (sym (ap (λ z. stack_depth (z ∷ fs)) k ∙ close_depth (plain_open c.left.top) (plain_open c.in-Some-pop.next) fs (take (c.left.top.to - c.left.at) (drop c.left.at c.args.text.now))
          ∙ ap (λ z. stack_depth (plain_open c.left.top ∷ z)) (sym o)))
          c.left.invariant.1,
      rest_more c.args.text.now s c.left.at c.left.top.to c.left.rest.now c.in_ok-more-2.more.now
          m.0 c.left.invariant.2 c.in_ok-more-2.ensures.left,
    )

pub left-init : goal.left-init
left-init c =
    let l = outer_length c.each.outer.items in
    let b = c.if-len-ge-DEEPEST-2.false in
    let e = c.len-2.ensures in
    let k = c.each.outer.ok in
    let m = length-map c.args.sorted.now (λ r. r.now) in
    let t = take_all c.each.range-index (seen c.args.sorted.now) (let f = c.each-test.false in omega (arith, m, f)) in (
      subst (λ z. IsAt c.args.top.now.name c.args.text.now z (plain_open c.each.top)
          (plain_outer c.each.outer.items) c.each.at) t c.each.invariant.is_at,
      shallow_at (stack_depth (plain_open c.each.top ∷ plain_outer c.each.outer.items)) (length (plain_outer c.each.outer.items)) c.each.invariant.shallow (omega (arith, l, b, e, k)),
      c.each.invariant.left,
    )

pub returns-then-len-ge-DEEPEST-clause-refused : goal.returns-then-len-ge-DEEPEST-clause-refused
returns-then-len-ge-DEEPEST-clause-refused c =
    let l = outer_length c.each.outer.items in
    let b = c.if-len-ge-DEEPEST.true in
    let e = c.len.ensures in
    let k = c.each.outer.ok in
    too_deep c.args.top.now.name c.args.text.now (seen c.args.sorted.now) c.each.range-index
    (plain_open c.each.top) (plain_outer c.each.outer.items) c.each.at
    c.each.invariant.is_at c.each.invariant.later c.requires.inside c.requires.in_order c.requires.none_cross (omega (arith, l, b, e, k))

pub returns-then-len-ge-DEEPEST-2-clause-refused : goal.returns-then-len-ge-DEEPEST-2-clause-refused
returns-then-len-ge-DEEPEST-2-clause-refused c =
    let l = outer_length c.each.outer.items in
    let k = c.each.outer.ok in
    too_deep c.args.top.now.name c.args.text.now (seen c.args.sorted.now) c.each.range-index
    (plain_open c.each.top) (plain_outer c.each.outer.items) c.each.at
    c.each.invariant.is_at c.each.invariant.later c.requires.inside c.requires.in_order
    c.requires.none_cross
    (let b = c.if-len-ge-DEEPEST-2.true in let e = c.len-2.ensures in omega (arith, l, b, e, k))

pub write-requires-2-clause-units : goal.write-requires-2-clause-units
write-requires-2-clause-units c = rest_spells c.args.text.now (spells c.args.text.now c.bytes-rest.ensures.legal c.requires.no_close_mark) c.left.at c.left.rest.now c.left.invariant.2

pub write-requires-2-clause-within : goal.write-requires-2-clause-within
write-requires-2-clause-within c = rest_within c.args.text.now (spells c.args.text.now c.bytes-rest.ensures.legal c.requires.no_close_mark) c.left.at c.len-3.result c.left.rest.now c.left.invariant.2
    (let e = c.len-3.ensures.value in omega (arith, e))

pub returns-clause-shallow : goal.returns-clause-shallow
returns-clause-shallow c =
    subst (λ x. x ≤ MAX_DEPTH) (sym (ap (λ z. depth_of (tree_of z)) written
    ∙ end_depth (plain_open c.left.top) (take (length c.args.text.now - c.left.at)
    (drop c.left.at c.args.text.now))))
    (subst (λ x. stack_depth (plain_open c.left.top ∷ plain_outer x) ≤ MAX_DEPTH) none
    c.left.invariant.1)
  where
    none : c.left.outer.items ≡ []
    none = nil_from_length c.left.outer.items (let n = c.in_default-pop.ensures.cases in let k = c.left.outer.ok in omega (arith, n.0, k))

    written : plain_open c.write-2.new.self ≡ write (plain_open c.left.top)
        (take (length c.args.text.now - c.left.at) (drop c.left.at c.args.text.now))
    written =
        c.in_ok-write.ensures.kids ∙ ap (λ z. write (plain_open c.left.top)
        (take (z - c.left.at) (units_in c.left.rest.now))) c.len-3.ensures.value
        ∙ ap (write (plain_open c.left.top)) (rest_taken c.args.text.now
        (spells c.args.text.now c.bytes-rest.ensures.legal c.requires.no_close_mark) c.left.at
        (length c.args.text.now) c.left.rest.now c.left.invariant.2)

-- the root alone is left open, and has got the rest of the text
last : (root : List ℕ) (text : List (List ℕ)) (sorted : List Range) (f g : PlainOpen) (at : ℕ) →
    IsAt root text sorted f [] at →
    g ≡ write f (take (length text - at) (drop at text)) → IsRootOver root text sorted (tree_of g)
last root text sorted f g at alone written = record {
  kids = forest_of (with_text f.kids (take (length text - at) (drop at text)));
  is_root =
      ap tree_of written ∙ ap (λ z. element z [] (tagged [])
      (forest_of (with_text f.kids (take (length text - at) (drop at text)))) blank_mark)
      ((alone.built).base).1;
  whole = end_at root text sorted f at alone;
}

pub returns-clause-built : goal.returns-clause-built
returns-clause-built c =
    last c.args.top.now.name c.args.text.now (seen c.args.sorted.now) (plain_open c.left.top)
    (plain_open c.write-2.new.self) c.left.at alone written
  where
    none : c.left.outer.items ≡ []
    none = nil_from_length c.left.outer.items (let n = c.in_default-pop.ensures.cases in let k = c.left.outer.ok in omega (arith, n.0, k))

    alone : IsAt c.args.top.now.name c.args.text.now (seen c.args.sorted.now)
        (plain_open c.left.top) [] c.left.at
    alone =
        subst (λ x. IsAt c.args.top.now.name c.args.text.now (seen c.args.sorted.now)
        (plain_open c.left.top) (plain_outer x) c.left.at) none c.left.invariant.0

    written : plain_open c.write-2.new.self ≡ write (plain_open c.left.top)
        (take (length c.args.text.now - c.left.at) (drop c.left.at c.args.text.now))
    written =
        c.in_ok-write.ensures.kids ∙ ap (λ z. write (plain_open c.left.top)
        (take (z - c.left.at) (units_in c.left.rest.now))) c.len-3.ensures.value
        ∙ ap (write (plain_open c.left.top)) (rest_taken c.args.text.now
        (spells c.args.text.now c.bytes-rest.ensures.legal c.requires.no_close_mark) c.left.at
        (length c.args.text.now) c.left.rest.now c.left.invariant.2)
