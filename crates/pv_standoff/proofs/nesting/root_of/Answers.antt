use Rattle.std.proofs.Common.{◌≡◌, ◌⊎◌, inl, inr, ◌≤◌, ℕ, List, Result, Ok, Err, length, MatchOption, MatchResult, IfOk, IfErr, refl, sym, subst}
use Rattle.std.specs.List.{AllByRecursion}
use Rattle.std.proofs.lemmas.List.Sorted.{IsPermutation-sym}
use Rattle.pv_tree.specs.Legal.{MAX_DEPTH}
use Rattle.pv_tree.specs.Plain.{Tree, depth_of}
use Rattle.pv_tree.specs.PlainForms.{plain}
use Rattle.pv_tree.specs.declared.nodes.Mark.{Mark}
use Rattle.pv_tree.specs.declared.nodes.Node.{Node}
use Rattle.pv_standoff.specs.Ranges.{IsSortedFrom, IsInsideText, NoneTwice, NoneCrossLater}
use Rattle.pv_standoff.specs.declared.ranges.Range.{Range}
use Rattle.pv_standoff.specs.RefusedRanges.{IsFirstCrossing}
use Rattle.pv_standoff.specs.PlainForms.{seen, IsRootOver}
use Rattle.pv_standoff.specs.Spans.{StandsForRanges, document_of_root, root_of}
use Rattle.pv_standoff.specs.Stacks.{BuildRefuses}
use Rattle.pv_standoff.specs.declared.errors.NestError.{NestError}
use Rattle.pv_standoff.specs.declared.errors.NestError.TheVariants as error
use Rattle.pv_standoff.specs.NestOutcomes.{Nests, NestMeans, Refuses}
use Rattle.pv_standoff.proofs.OneSortedOrder.{none_twice-permutation, all-permutation}
use Rattle.pv_standoff.proofs.SomeDocument.{one_nests}
use Rattle.pv_standoff.proofs.nesting.root_of.Goals as goal

pub returns-in-Some-2-clause-means : goal.returns-in-Some-2-clause-means
returns-in-Some-2-clause-means c =
    inr (record {
      inside = subst (λ z. AllByRecursion (IsInsideText z) c.args.ranges.now) c.len.ensures.value c.in_default.ensures;
      once = none_twice-permutation (seen c.in_ok-sorted.sorted.items) c.args.ranges.now (IsPermutation-sym c.args.ranges.now _ c.in_ok-sorted.ensures.permutation)
          (subst (λ z. NoneTwice (seen z)) c.as_slice.ensures.value c.in_default-first_twice.ensures);
      sorted = seen c.in_ok-sorted.sorted.items;
      is_sorted = c.in_ok-sorted.ensures;
      first = c.in-Some-2.range.now;
      next = c.in-Some-2.next.now;
      is_first = subst (λ z. IsFirstCrossing (seen z) c.in-Some-2.range.now c.in-Some-2.next.now) c.as_slice-2.ensures.value
          (subst (λ z. MatchOption z (NoneCrossLater (seen c.as_slice-2.result.now)) (λ p. IsFirstCrossing (seen c.as_slice-2.result.now) p.0.now p.1.now))
          c.in-Some-2.is c.in_ok-range.ensures);
      is_range = (refl, refl);
      is_next = (refl, refl);
    })

pub build-requires-clause-inside : goal.build-requires-clause-inside
build-requires-clause-inside c =
    let i = subst (λ z. AllByRecursion (IsInsideText z) c.args.ranges.now) c.len.ensures.value c.in_default.ensures in
    subst (λ z. AllByRecursion (IsInsideText (length c.args.text.now)) (seen z)) (sym c.as_slice-3.ensures.value)
    (all-permutation (IsInsideText (length c.args.text.now)) c.args.ranges.now (seen c.in_ok-sorted.sorted.items) c.in_ok-sorted.ensures.permutation i)

over_root : (root : List ℕ) (text : List (List ℕ)) (ranges sorted : List Range) (t : Tree Mark) →
    IsSortedFrom ranges sorted → IsRootOver root text sorted t →
    StandsForRanges root text ranges (document_of_root t)
over_root root text ranges sorted t s b = record {
  kids = b.kids;
  is_document = λ i. document_of_root (b.is_root i);
  bare = (b.whole).bare;
  apart = (b.whole).apart;
  units = (b.whole).units;
  sorted = sorted;
  is_sorted = s;
  spans = (b.whole).spans;
}

all_fine : (root : List ℕ) (text : List (List ℕ)) (ranges sorted : List Range) (t : Tree Mark) → AllByRecursion (IsInsideText (length text)) ranges → IsSortedFrom ranges sorted →
    NoneTwice sorted → IsRootOver root text sorted t → Nests root text ranges (document_of_root t)
all_fine root text ranges sorted t i s n b = record {
  inside = i;
  once = none_twice-permutation sorted ranges (IsPermutation-sym ranges sorted s.permutation) n;
  none_cross = (one_nests root text ranges (document_of_root t) (over_root root text ranges sorted t s b)).1;
  stands = over_root root text ranges sorted t s b;
}

refused : (root : List ℕ) (text : List (List ℕ)) (ranges sorted : List Range) → AllByRecursion (IsInsideText (length text)) ranges → IsSortedFrom ranges sorted → NoneTwice sorted →
    (e : NestError) → BuildRefuses text sorted e → (e ≡ error.NoMemory) ⊎ Refuses root text ranges e
refused root text ranges sorted i s n (error.Outside k) b = absurd b
refused root text ranges sorted i s n (error.Twice x y z) b = absurd b
refused root text ranges sorted i s n (error.Crossing x y z w) b = absurd b
refused root text ranges sorted i s n error.Deep b = inr (record {
  deep = document_of_root (root_of root b.kids);
  nests = all_fine root text ranges sorted (root_of root b.kids) i s n (record { kids = b.kids; is_root = refl; whole = b.whole });
  too_deep = b.deep;
})
refused root text ranges sorted i s n error.NoMemory b = inl refl

answered : (root : List ℕ) (text : List (List ℕ)) (ranges sorted : List Range) → AllByRecursion (IsInsideText (length text)) ranges → IsSortedFrom ranges sorted → NoneTwice sorted →
    (r : Result Node NestError) → IfOk r (λ node. IsRootOver root text sorted (plain node)) → IfOk r (λ node. depth_of (plain node) ≤ MAX_DEPTH) → IfErr r (BuildRefuses text sorted) →
    MatchResult r (λ node. NestMeans root text ranges (Ok (document_of_root (plain node)))) (λ e. (e ≡ error.NoMemory) ⊎ NestMeans root text ranges (Err e))
answered root text ranges sorted i s n (Ok node) b d r = (all_fine root text ranges sorted (plain node) i s n b, d)
answered root text ranges sorted i s n (Err e) b d r = refused root text ranges sorted i s n e r

pub returns-clause-means : goal.returns-clause-means
returns-clause-means c =
    let e = c.as_slice-3.ensures.value in
    answered c.args.root c.args.text.now c.args.ranges.now (seen c.in_ok-sorted.sorted.items)
    (subst (λ z. AllByRecursion (IsInsideText z) c.args.ranges.now) c.len.ensures.value c.in_default.ensures) c.in_ok-sorted.ensures
    (subst (λ z. NoneTwice (seen z)) c.as_slice.ensures.value c.in_default-first_twice.ensures)
    c.build.result
    (subst (λ z. IfOk c.build.result (λ node. IsRootOver c.args.root c.args.text.now (seen z) (plain node))) e c.build.ensures.built)
    c.build.ensures.shallow
    (subst (λ z. IfErr c.build.result (BuildRefuses c.args.text.now (seen z))) e c.build.ensures.refused)
