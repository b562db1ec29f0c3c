-- What the rows are proved with.
use Rattle.std.proofs.Common.{List, Some, [], arith, refl, suc, ℕ, ◌++◌, ◌+◌, ◌∷◌, ◌≡◌, ◌≤◌}
use Rattle.pv_model.specs.Plain.{PlainModel, PlainToken, named}
use Rattle.pv_model.specs.Models.{Allows}
use Rattle.pv_dtd.specs.Plain.{PlainDtd, declared, model_of}
use Rattle.pv_dtd.specs.Hedge.{done}
use Rattle.pv_tree.specs.Lists.{IsValidBy, IsValidList, Listed, Owner, an_element, lists_of, the_document}
use Rattle.pv_tree.specs.Plain.{Forest, Tree}
use Rattle.pv_tree.specs.View.{view}
use Rattle.pv_missing.specs.Covers.{Covers, IsPossibleWith, cover_new}
use Rattle.pv_dtd.specs.Proper.{IsProperDtd}
use Rattle.pv_missing.specs.Proper.{IsProperDoc}
use Rattle.pv_missing.specs.MissingNumbers.{MissInAll, Misses, MissesBy}
use Rattle.pv_dtd.specs.Productive.{IsProductive}
use Rattle.law_missing.specs.Documents.{doc_of}
use Rattle.law_missing.specs.Rows.{IsImpossibleAt, NeedsWith}
use Rattle.pv_missing.specs.Verdicts.{AreProductiveKids, AreVerdicts, IsFirstImpossible, IsProductiveOwner, IsVerdict}
use Rattle.pv_missing.proofs.DocLists.{misses_live_by, numbers_add_up}
use Rattle.pv_missing.proofs.SameCompletions.{some_number}
use Rattle.pv_missing.proofs.TreeLists.{miss_split}
use Rattle.pv_missing.proofs.Verdict.{content_own, own_live, root_own}
use Rattle.pv_tree.specs.declared.nodes.Verdict.{Verdict}
use Rattle.pv_tree.specs.declared.nodes.Verdict.TheVariants as verdict

module _ (g : PlainDtd) (root : List ℕ) where
  -- the verdict of a list and the least number of elements missing in it
  pub record ListRow (list : Listed Unit) (v : Verdict) (n : ℕ) : Type 0 where
    pub judged : IsVerdict g root list v
    pub misses : Misses g root list n
    pub bound : (m : ℕ) → Misses g root list m → n ≤ m

  own_misses : (o : Owner) (k : Forest Unit) → IsValidBy g root o k → IsProductiveOwner g o → AreProductiveKids g k → MissesBy g root o k 0
  own_misses the_document k v p q = root_own g root k v q
  own_misses (an_element x) k v p q = content_own g x k v p q

  pub valid_row : (list : Listed Unit) → IsValidList g root list → IsProductiveOwner g list.owner → AreProductiveKids g list.kids → ListRow list verdict.Valid 0
  valid_row list v p q = record { judged = (own_live g root list.owner list.kids v p q, v); misses = own_misses list.owner list.kids v p q; bound = λ m _. omega arith }

  pub possible_row : (list : Listed Unit) (n : ℕ) → Misses g root list n → ((m : ℕ) → Misses g root list m → n ≤ m) → (IsValidList g root list → ⊥) → ListRow list verdict.Possible n
  possible_row list n m b v = record { judged = (misses_live_by g root list.owner list.kids n m, v); misses = m; bound = b }

  abbrev pub RowsOf : List (Listed Unit) → List Verdict → ℕ → Type 0
  RowsOf [] [] n = n ≡ 0
  RowsOf [] (v ∷ vs) n = ⊥
  RowsOf (list ∷ lists) [] n = ⊥
  RowsOf (list ∷ lists) (v ∷ vs) n = (a : ℕ) × (b : ℕ) × (n ≡ a + b) × ListRow list v a × RowsOf lists vs b

  rows_judged : (lists : List (Listed Unit)) (vs : List Verdict) (n : ℕ) → RowsOf lists vs n → AreVerdicts g root lists vs
  rows_judged [] [] n r = refl
  rows_judged [] (v ∷ vs) n r = absurd r
  rows_judged (list ∷ lists) [] n r = absurd r
  rows_judged (list ∷ lists) (v ∷ vs) n (a, b, e, r, s) = (v, vs, refl, r.judged, rows_judged lists vs b s)

  rows_miss : (lists : List (Listed Unit)) (vs : List Verdict) (n : ℕ) → RowsOf lists vs n → MissInAll g root lists n
  rows_miss [] [] n r = r
  rows_miss [] (v ∷ vs) n r = absurd r
  rows_miss (list ∷ lists) [] n r = absurd r
  rows_miss (list ∷ lists) (v ∷ vs) n (a, b, e, r, s) = (a, b, e, r.misses, rows_miss lists vs b s)

  rows_bound : (lists : List (Listed Unit)) (vs : List Verdict) (n : ℕ) → RowsOf lists vs n → (m : ℕ) → MissInAll g root lists m → n ≤ m
  rows_bound [] [] n r m q = omega (arith, r)
  rows_bound [] (v ∷ vs) n r m q = absurd r
  rows_bound (list ∷ lists) [] n r m q = absurd r
  rows_bound (list ∷ lists) (v ∷ vs) n (a, b, e, r, s) m (c, d, f, p, q) =
      let one = r.bound c p in let two = rows_bound lists vs b s d q in omega (arith, e, f)

  pub needs : IsProperDtd g → (t : Tree Unit) (vs : List Verdict) (n : ℕ) → IsProperDoc (doc_of t) → RowsOf (lists_of (doc_of t)) vs n → NeedsWith g root t vs n
  needs proper t vs n p r = (
    rows_judged (lists_of (doc_of t)) vs n r,
    record {
      completes = (numbers_add_up Unit g root (doc_of t) n proper p).1 (rows_miss (lists_of (doc_of t)) vs n r);
      least = λ m c. rows_bound (lists_of (doc_of t)) vs n r m ((numbers_add_up Unit g root (doc_of t) m proper p).0 c);
    },
  )

  none_missing : (lists : List (Listed Unit)) (path : List ℕ) (n : ℕ) → (f : IsFirstImpossible g root lists path) → MissInAll g root lists n → ⊥
  none_missing lists path n f m =
      let p = miss_split g root f.before (f.list ∷ f.after) n (rw f.is_split at m) in
      f.is_not (misses_live_by g root f.list.owner f.list.kids p.back.0 p.back.3)

  pub impossible_at : IsProperDtd g → (t : Tree Unit) (path : List ℕ) → IsProperDoc (doc_of t) → IsFirstImpossible g root (lists_of (doc_of t)) path → IsImpossibleAt g root t path
  impossible_at proper t path p f = (
    f,
    λ v.
        let c = (some_number g root (view t)).0 v in none_missing (lists_of (doc_of t)) path c.0 f ((numbers_add_up Unit g root (doc_of t) c.0 proper p).0 c.1),
  )

-- a missing element with this content stands before the rest
pub new_before : (g : PlainDtd) (y a b : ℕ) (u w1 w2 : List PlainToken) → IsPossibleWith g y a w1 → Covers g b u w2 → Covers g (suc (a + b)) (named y ∷ u) (w1 ++ w2)
new_before g y a b u w1 w2 p c = cover_new (suc (a + b)) a b y p.model p.whole u w1 w2 (w1 ++ w2) refl refl p.is_model p.allowed p.covers c

pub possible_with : (g : PlainDtd) (x n : ℕ) (m : PlainModel) (u w : List PlainToken) → model_of g x ≡ Some m → Allows (declared g) m u → Covers g n u w → IsPossibleWith g x n w
possible_with g x n m u w e a c = record { model = m; is_model = e; whole = u; allowed = a; covers = c }

-- an element with no kids is good where its model allows nothing
pub alone_productive : (g : PlainDtd) (y : ℕ) (m : PlainModel) → model_of g y ≡ Some m → Allows (declared g) m [] → IsProductive g y
alone_productive g y m e a = record { kids = done; fits = record { model = m; is_model = e; no_kids = λ _. refl; allowed = a }; good = tt }
