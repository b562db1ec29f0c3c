-- At most one document stands for a text and ranges.
use Rattle.std.proofs.Common.{◌<◌, List, [], ◌∷◌, map, sym, ◌∙◌, ap}
use Rattle.std.specs.List.{AllByRecursion}
use Rattle.std.proofs.lemmas.List.Sorted.{All-permutation}
use Rattle.pv_standoff.specs.declared.ranges.Range.{Range}
use Rattle.pv_standoff.specs.Spans.{document_of_root, root_of, span_of}
use Rattle.pv_standoff.specs.Laws.{OneDocument}
use Rattle.pv_standoff.proofs.OneSortedOrder.{all-recursion, one_order}
use Rattle.pv_standoff.proofs.SameForests.{IsFull, same_forests}

full_spans : (rs : List Range) → AllByRecursion (λ r. r.from < r.to) rs → AllByRecursion IsFull (map span_of rs)
full_spans [] f = tt
full_spans (r ∷ rs) f = (f.0, full_spans rs f.1)

pub one_document : OneDocument
one_document root text ranges d e full once s s' =
    let o = one_order ranges s.sorted s'.sorted once s.is_sorted s'.is_sorted in
    let f = full_spans s.sorted (all-recursion _ s.sorted (All-permutation (λ r. r.from < r.to) ranges s.sorted s.is_sorted.permutation full)) in
    let k = same_forests 0 s.kids s'.kids s.bare s'.bare s.apart s'.apart (rw (sym s.spans) at f) (s.units ∙ sym s'.units)
    (s.spans ∙ ap (map span_of) o ∙ sym s'.spans) in
    s.is_document ∙ ap (λ z. document_of_root (root_of root z)) k ∙ sym s'.is_document
