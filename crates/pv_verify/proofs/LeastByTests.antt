-- What passes the tests is a least completion.
use Rattle.std.proofs.Common.{List, [], arith, refl, subst, suc, sym, ℕ, ◌+◌, ◌∙◌, ◌∷◌, ◌≡◌, ◌≤◌}
use Rattle.std.specs.List.{All, AllByRecursion, AllPairs, Contains}
use Rattle.std.proofs.lemmas.List.Elements.{All-cons, All-from_get_or, All-head, All-nil, All-tail}
use Rattle.std.proofs.lemmas.List.Kept.{AllPairs-cons}
use Rattle.pv_dtd.specs.Hedge.{elements}
use Rattle.pv_dtd.specs.Plain.{PlainDtd}
use Rattle.pv_dtd.specs.Proper.{IsProperDtd}
use Rattle.pv_rules.specs.Derivations.{IsClosed}
use Rattle.pv_rules.specs.Rules.{Rule}
use Rattle.pv_tree.specs.Lists.{Listed, lists_of}
use Rattle.pv_tree.specs.PathOrder.{IsPathBefore}
use Rattle.pv_tree.specs.View.{view}
use Rattle.pv_tree.specs.Words.{word_of}
use Rattle.pv_missing.specs.Completions.{Completes, HasCompletion}
use Rattle.pv_missing.specs.DocumentLaws.{SomeBounds, TagsExtend}
use Rattle.pv_missing.specs.ListLaws.{ClosedIsBound}
use Rattle.pv_missing.specs.ListWeights.{AscendBounds, BoundAt, IsBound, IsBoundAt, sum_of_bounds}
use Rattle.pv_tables.specs.TableLaws.{OneListAtPath}
use Rattle.pv_tables.specs.Values.{HasWholeValue, HaveTotal, listed_value}
use Rattle.pv_tables.specs.declared.tables.Table.{Table}
use Rattle.pv_table_check.specs.ClosedTables.{AreClosedTables, IsClosedTable}
use Rattle.pv_compare.specs.Kept.{KeepsDocument}
use Rattle.pv_verify.specs.Laws.{AcceptedIsLeast}
use Rattle.pv_verify.specs.Tests.{HasTotals}
use Rattle.pv_verify.specs.declared.answers.Why.TheVariants as why

abbrev IsTableBefore : Table → Table → Type 0
IsTableBefore t u = IsPathBefore t.path u.path

abbrev IsBoundBefore : BoundAt → BoundAt → Type 0
IsBoundBefore b c = IsPathBefore b.path c.path

-- what is first is before all others, and these ascend
pub first_before : {X : Type 0} (R : X → X → Type 0) (x : X) (xs : List X) → AllPairs R (x ∷ xs) → All (R x) xs
first_before R x xs p = All-from_get_or (R x) xs x (λ i h. p 0 (suc i) x (omega arith) (omega arith))

pub others_ascend : {X : Type 0} (R : X → X → Type 0) (x : X) (xs : List X) → AllPairs R (x ∷ xs) → AllPairs R xs
others_ascend R x xs p i j d h k = p (suc i) (suc j) d (omega arith) (omega arith)

-- these bounds stand at the paths of these tables
data AreAtPaths : List Table → List BoundAt → Type 0 where
  none_at : AreAtPaths [] []
  one_at : (t : Table) (ts : List Table) (b : BoundAt) (bs : List BoundAt) → t.path ≡ b.path → AreAtPaths ts bs → AreAtPaths (t ∷ ts) (b ∷ bs)

before_all : (b : BoundAt) (t : Table) (ts : List Table) (bs : List BoundAt) → t.path ≡ b.path → AreAtPaths ts bs → All (IsTableBefore t) ts → All (IsBoundBefore b) bs
before_all b t ts bs e none_at all = All-nil (IsBoundBefore b)
before_all b t (u ∷ us) (c ∷ cs) e (one_at _ _ _ _ f more) all =
    let head = All-head (IsTableBefore t) u us all in
    All-cons (IsBoundBefore b) c cs (subst (λ p. IsPathBefore p c.path) e (subst (λ p. IsPathBefore t.path p) f head))
    (before_all b t us cs e more (All-tail (IsTableBefore t) u us all))

bounds_ascend : (ts : List Table) (bs : List BoundAt) → AreAtPaths ts bs → AllPairs IsTableBefore ts → AscendBounds bs
bounds_ascend ts bs none_at p = λ i j d lt within. absurd (omega arith)
bounds_ascend (t ∷ ts) (b ∷ bs) (one_at _ _ _ _ e more) p =
    AllPairs-cons IsBoundBefore b bs (before_all b t ts bs e more (first_before IsTableBefore t ts p))
    (bounds_ascend ts bs more (others_ascend IsTableBefore t ts p))

module _ {M : Type 0} (g : PlainDtd) (root : List ℕ) (lists : List (Listed M)) where
  -- the bounds that tables show
  record Bounds (ts : List Table) (s : ℕ) : Type 0 where
    bounds : List BoundAt
    at : AreAtPaths ts bounds
    sum : sum_of_bounds bounds ≡ s
    each : AllByRecursion (IsBoundAt g root lists) bounds

  module _ (proper : IsProperDtd g) (closed_is_bound : ClosedIsBound M) (one_list : (a b : Listed M) → Contains lists a → Contains lists b → a.path ≡ b.path → a ≡ b) where
    -- the whole-list value of a closed table is a bound
    table_bounds : (t : Table) (k : ℕ) → IsClosedTable g root lists t → HasWholeValue g root lists t k → IsBoundAt g root lists (record { path = t.path; bound = k })
    table_bounds t k c v = record { list = v.list; is_listed = v.is_listed; is_path = sym v.is_path; is_bound = bound }
      where
        same : c.list ≡ v.list
        same = one_list c.list v.list c.is_listed v.is_listed (sym c.is_path ∙ v.is_path)

        bound : IsBound g root v.list k
        bound = subst (IsBound g root v.list) (sym v.is_value)
            (closed_is_bound g root v.list v.site (listed_value t.entries) proper v.is_site
            (subst (λ (l : Listed M). IsClosed (Rule g (word_of g l.kids)) (listed_value t.entries)) same c.closed))

    all_bound : (ts : List Table) (s : ℕ) → All (IsClosedTable g root lists) ts → HaveTotal g root lists ts s → Bounds ts s
    all_bound [] s all h = record { bounds = []; at = none_at; sum = sym h; each = tt }
    all_bound (t ∷ ts) s all (a, b, e, v, more) =
        let rest = all_bound ts b (All-tail (IsClosedTable g root lists) t ts all) more in
        let here : BoundAt = record { path = t.path; bound = a } in
        record {
          bounds = here ∷ rest.bounds;
          at = one_at t ts here rest.bounds refl rest.at;
          sum = omega (arith, rest.sum, e);
          each = (table_bounds t a (All-head (IsClosedTable g root lists) t ts all) v, rest.each);
        }

pub accepted_is_least : (M : Type 0) → SomeBounds M → TagsExtend → ClosedIsBound M → OneListAtPath M → AcceptedIsLeast M
accepted_is_least M some_bounds tags_extend closed_is_bound one_list g root doc pack proper proper_doc a =
    record { body = a.body; is_body = a.passes why.Body; completes = completes; least = record { completes = completion; least = least } }
  where
    kept : KeepsDocument doc a.body pack.marks
    kept = a.passes why.Kept

    totals : HasTotals g root (lists_of doc) pack
    totals = a.passes why.Totals

    tables : AreClosedTables g root (lists_of doc) pack.tables
    tables = a.passes why.Closure

    inserted : elements (view a.body.root) ≡ pack.total + elements (view doc.root)
    inserted = let e = (tags_extend 0 (elements (view a.body.root)) pack.marks (view doc.root) (view a.body.root) kept.tags).1 in let f = totals.as_many in omega arith

    completes : Completes g root doc a.body pack.marks pack.total
    completes = record {
      valid = a.passes why.Validity;
      extends = (tags_extend 0 (elements (view a.body.root)) pack.marks (view doc.root) (view a.body.root) kept.tags).0;
      inserted = inserted;
      same_before = kept.same_before;
      same_after = kept.same_after;
      counted = totals.as_many;
      tags = kept.tags;
    }

    completion : HasCompletion g root pack.total (view doc.root)
    completion = record { hedge = view a.body.root; extends = completes.extends; valid = completes.valid; inserted = inserted }

    shown : Bounds g root (lists_of doc) pack.tables pack.total
    shown = all_bound g root (lists_of doc) proper closed_is_bound (one_list doc) pack.tables pack.total tables.each totals.adds_up

    least : (n : ℕ) → HasCompletion g root n (view doc.root) → pack.total ≤ n
    least n c =
        let h = some_bounds g root doc shown.bounds proper proper_doc (bounds_ascend pack.tables shown.bounds shown.at tables.ascend) shown.each n c in
        let e = shown.sum in omega arith
