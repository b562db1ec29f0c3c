-- Locality, and the sums of missing elements and of weights.
use Rattle.std.specs.Prelude.{IsTrue}
use Rattle.std.proofs.Common.{List, [], arith, refl, ℕ, ◌+◌, ◌↔◌, ◌∷◌, ◌≡◌, ◌≢◌}
use Rattle.std.specs.List.{AllByRecursion}
use Rattle.pv_model.specs.Plain.{named}
use Rattle.pv_dtd.specs.Plain.{PlainDtd}
use Rattle.pv_dtd.specs.Hedge.{done, word}
use Rattle.pv_tree.specs.Lists.{IsValidList, Listed, Owner, an_element, lists_at, the_document}
use Rattle.pv_tree.specs.Plain.{Forest, Tree, cdata_node, element, is_element, misc_node, no_trees, text_node, tree}
use Rattle.pv_tree.specs.View.{view, view_all}
use Rattle.pv_tree.specs.Words.{word_of}
use Rattle.pv_missing.specs.Completions.{HasCompletion}
use Rattle.pv_missing.specs.Covers.{Covers, IsPossibleWith}
use Rattle.pv_missing.specs.DocumentLaws.{IsPotentiallyValidByLists, Locality, NumbersAddUp}
use Rattle.pv_dtd.specs.Proper.{IsProperDtd}
use Rattle.pv_missing.specs.ListLaws.{LiveMisses}
use Rattle.pv_missing.specs.MissingNumbers.{MissInAll, MissesBy, MissesInContent, MissesInRoot}
use Rattle.pv_tree.specs.Units.{HasUnits}
use Rattle.pv_missing.specs.Verdicts.{AreVerdicts, IsLive, IsLiveBy, IsLiveContent, IsLiveRoot, Judges}
use Rattle.pv_missing.proofs.HedgeLists.{NoneImpossible}
use Rattle.pv_missing.proofs.PossibleWords.{depths}
use Rattle.pv_missing.proofs.Locality.{locality}
use Rattle.pv_missing.proofs.OneList.{covered_live, live_agrees}
use Rattle.pv_missing.proofs.SameCompletions.{some_number}
use Rattle.pv_missing.proofs.TreeLists.{BeforeMisses, before_live, live_before}
use Rattle.pv_tree.specs.declared.nodes.Verdict.{Verdict}
use Rattle.pv_tree.specs.declared.nodes.Verdict.TheVariants as verdict

-- the lists of a tree, that of the document node first
abbrev pub root_lists : {M : Type 0} → Tree M → List (Listed M)
root_lists t = record { path = []; owner = the_document; kids = tree t no_trees } ∷ lists_at (0 ∷ []) t

-- a verdict is not Impossible exactly where the list is live
judged_live : (live own : Type 0) (v : Verdict) → Judges v live own → v ≢ verdict.Impossible → live
judged_live live own verdict.Valid j n = j.0
judged_live live own verdict.Possible j n = j.0
judged_live live own verdict.Impossible j n = absurd (n refl)

live_judged : (live own : Type 0) (v : Verdict) → Judges v live own → live → v ≢ verdict.Impossible
live_judged live own verdict.Valid j l = λ e. cc
live_judged live own verdict.Possible j l = λ e. cc
live_judged live own verdict.Impossible j l = absurd (j l)

module _ {M : Type 0} (g : PlainDtd) (root : List ℕ) where
  root_misses : (t : Tree M) (n : ℕ) → (p : NoneImpossible g root n (view t)) → word_of g (tree t no_trees) ≡ word g (view t) → BeforeMisses g root (0 ∷ []) t p.below done →
      MissInAll g root (root_lists t) n
  root_misses t n p e b = (
    p.above,
    b.within,
    (let f = p.is_sum in let h = b.is_sum in let z = b.rest in omega arith),
    record { number = p.number; is_owner = p.is_number; possible = rw e p.document },
    b.lists,
  )

  none_misses : (t : Tree M) (n : ℕ) → IsTrue (is_element t) → HasUnits t → NoneImpossible g root n (view t) → MissInAll g root (root_lists t) n
  none_misses (element x a e k m) n i u p = root_misses (element x a e k m) n p refl (live_before g root (0 ∷ []) (element x a e k m) p.below done u p.lists)
  none_misses (text_node us) n i u p = absurd cc
  none_misses (cdata_node b) n i u p = absurd cc
  none_misses (misc_node b) n i u p = absurd cc

  misses_none : (t : Tree M) (n : ℕ) → IsTrue (is_element t) → MissInAll g root (root_lists t) n → NoneImpossible g root n (view t)
  misses_none (element x s e k m) n i (a, b, f, p, q) = record {
    number = p.number;
    is_number = p.is_owner;
    above = a;
    below = b;
    is_sum = f;
    document = p.possible;
    lists = let z : b + 0 ≡ b = omega arith in rw z at (before_live g root (0 ∷ []) (element x s e k m) b 0 done q refl);
  }
  misses_none (text_node us) n i p = absurd cc
  misses_none (cdata_node b) n i p = absurd cc
  misses_none (misc_node b) n i p = absurd cc

  adds_up : (t : Tree M) (n : ℕ) → IsProperDtd g → IsTrue (is_element t) → HasUnits t → HasCompletion g root n (view t) ↔ MissInAll g root (root_lists t) n
  adds_up (element x s e k m) n proper i u = (
    (λ c. none_misses (element x s e k m) n i u ((locality g root x s (view_all k) n proper).0 c)),
    (λ p. (locality g root x s (view_all k) n proper).1 (misses_none (element x s e k m) n i p)),
  )
  adds_up (text_node us) n proper i u = absurd cc
  adds_up (cdata_node b) n proper i u = absurd cc
  adds_up (misc_node b) n proper i u = absurd cc

  -- a list is live exactly where some number of elements is missing in it
  content_misses : (x : List ℕ) (k : Forest M) → (l : IsLiveContent g x k) → ((n : ℕ) × IsPossibleWith g l.number n l.live) → (n : ℕ) × MissesInContent g x k n
  content_misses x k l (n, p) = (
    n,
    record {
      number = l.number;
      is_owner = l.is_owner;
      productive = l.productive;
      no_kids = l.no_kids;
      possible = (live_agrees g l.number n (word_of g k) l.live l.is_live).0.1 p;
    },
  )

  root_misses_some : (k : Forest M) → (l : IsLiveRoot g root k) → ((n : ℕ) × Covers g n (named l.number ∷ []) l.live) → (n : ℕ) × MissesInRoot g root k n
  root_misses_some k l (n, p) = (n, record { number = l.number; is_owner = l.is_owner; possible = (live_agrees g l.number n (word_of g k) l.live l.is_live).1.1 p })

  pub live_misses_by : (o : Owner) (k : Forest M) → IsLiveBy g root o k → (n : ℕ) × MissesBy g root o k n
  live_misses_by the_document k l = root_misses_some k l ((depths g l.number l.live).1.0 l.possible)
  live_misses_by (an_element x) k l = content_misses x k l ((depths g l.number l.live).0.0 l.possible)

  pub misses_live_by : (o : Owner) (k : Forest M) (n : ℕ) → MissesBy g root o k n → IsLiveBy g root o k
  misses_live_by the_document k n p = record {
    number = p.number;
    is_owner = p.is_owner;
    live = word_of g k;
    is_live = covered_live g n (named p.number ∷ []) (word_of g k) p.possible;
    possible = (depths g p.number (word_of g k)).1.1 (n, p.possible);
  }
  misses_live_by (an_element x) k n p = record {
    number = p.number;
    is_owner = p.is_owner;
    productive = p.productive;
    no_kids = p.no_kids;
    live = word_of g k;
    is_live = covered_live g n p.possible.whole (word_of g k) p.possible.covers;
    possible = (depths g p.number (word_of g k)).0.1 (n, p.possible);
  }

  live_missing : (lists : List (Listed M)) → AllByRecursion (IsLive g root) lists → (n : ℕ) × MissInAll g root lists n
  live_missing [] a = (0, refl)
  live_missing (list ∷ lists) a =
      let p = live_misses_by list.owner list.kids a.0 in let q = live_missing lists a.1 in (p.0 + q.0, (p.0, q.0, refl, p.1, q.1))

  missing_live : (lists : List (Listed M)) (n : ℕ) → MissInAll g root lists n → AllByRecursion (IsLive g root) lists
  missing_live [] n p = tt
  missing_live (list ∷ lists) n (a, b, f, p, q) = (misses_live_by list.owner list.kids a p, missing_live lists b q)

  fine_live : (lists : List (Listed M)) (vs : List Verdict) → AreVerdicts g root lists vs → AllByRecursion (λ v. v ≢ verdict.Impossible) vs →
      AllByRecursion (IsLive g root) lists
  fine_live [] vs e a = tt
  fine_live (list ∷ lists) vs (v, rest, e, j, d) a =
      let b : AllByRecursion (λ v. v ≢ verdict.Impossible) (v ∷ rest) = rw e at a in
      (judged_live (IsLive g root list) (IsValidList g root list) v j b.0, fine_live lists rest d b.1)

  live_fine : (lists : List (Listed M)) (vs : List Verdict) → AreVerdicts g root lists vs → AllByRecursion (IsLive g root) lists →
      AllByRecursion (λ v. v ≢ verdict.Impossible) vs
  live_fine [] vs e a = rw e tt
  live_fine (list ∷ lists) vs (v, rest, e, j, d) a =
      rw e (live_judged (IsLive g root list) (IsValidList g root list) v j a.0, live_fine lists rest d a.1)

pub live_misses : (M : Type 0) → LiveMisses M
live_misses M g root list = ((λ l. live_misses_by g root list.owner list.kids l), (λ p. misses_live_by g root list.owner list.kids p.0 p.1))

pub numbers_add_up : (M : Type 0) → NumbersAddUp M
numbers_add_up M g root doc n proper p = adds_up g root doc.root n proper p.rooted p.units

pub live_locality : (M : Type 0) → IsPotentiallyValidByLists M
live_locality M g root doc proper p = (
  (λ q. let c = (some_number g root (view doc.root)).0 q in missing_live g root (root_lists doc.root) c.0 ((numbers_add_up M g root doc c.0 proper p).0 c.1)),
  (λ a. let m = live_missing g root (root_lists doc.root) a in (some_number g root (view doc.root)).1 (m.0, (numbers_add_up M g root doc m.0 proper p).1 m.1)),
)

pub verdict_locality : (M : Type 0) → Locality M
verdict_locality M g root doc vs proper p v = (
  (λ q. live_fine g root (root_lists doc.root) vs v ((live_locality M g root doc proper p).0 q)),
  (λ a. (live_locality M g root doc proper p).1 (fine_live g root (root_lists doc.root) vs v a)),
)
