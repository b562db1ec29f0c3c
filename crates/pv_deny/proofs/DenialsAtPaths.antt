-- The denial of the list at a path.
use Rattle.std.proofs.Common.{List, Ok, Err, Result, IfOk, IfErr, [], ap, inl, inr, length, refl, subst, sym, ℕ, ◌++◌, ◌∙◌, ◌∷◌, ◌≡◌, ◌≢◌, ◌≤◌, ◌⊎◌, arith}
use Rattle.std.specs.List.{AllByRecursion, Contains}
use Rattle.pv_model.specs.Plain.{PlainToken}
use Rattle.pv_dtd.specs.Plain.{PlainDtd}
use Rattle.pv_dtd.specs.Proper.{IsProperDtd}
use Rattle.pv_tree.specs.Lists.{Listed, lists_of}
use Rattle.pv_tree.specs.Plain.{Forest, PlainDoc}
use Rattle.pv_tree.specs.PlainForms.{forest}
use Rattle.pv_tree.specs.Words.{word_of}
use Rattle.pv_tree.specs.declared.nodes.Mark.{Mark}
use Rattle.pv_tree.proofs.JoinedLists.{contains_first, contains_later}
use Rattle.pv_missing.specs.LiveWords.{IsLiveWord}
use Rattle.pv_missing.specs.Proper.{IsProperDoc}
use Rattle.pv_missing.specs.Verdicts.{IsFirstImpossible, IsLive}
use Rattle.pv_missing.specs.Widths.{FitsVerdict, IsListForVerdict}
use Rattle.pv_tables.specs.TableLaws.{OneListAtPath}
use Rattle.pv_denial.specs.Causes.{IsCause}
use Rattle.pv_denial.specs.Places.{IsPlaceAt}
use Rattle.pv_denial.specs.Rows.{most_values, values_in}
use Rattle.pv_denial.specs.declared.denials.Cause.{Cause}
use Rattle.pv_denial.specs.declared.denials.Cause.TheVariants as cause
use Rattle.pv_denial.specs.declared.denials.Denial.{Denial}
use Rattle.pv_denial.specs.declared.denials.Row.{Row}
use Rattle.pv_denial.specs.declared.places.OwnedList.{OwnedList}
use Rattle.pv_deny.specs.DocumentDenials.{Answers, HasOutcome, HasTooMany, IsDenialOf, HasOutcomeBy}
use Rattle.pv_deny.specs.DocumentDenials.{Outcome, is_denial, is_possible, is_too_many, is_too_wide}
use Rattle.pv_deny.specs.Laws.{OneOutcome}
use Rattle.pv_deny.specs.ToldRows.{HasManyValues, HasRowsBy}
use Rattle.pv_deny.specs.declared.errors.DenyError.{DenyError}
use Rattle.pv_deny.specs.declared.errors.DenyError.TheVariants.{NoMemory, Possible, TooMany, TooWide}
use Rattle.pv_denial.proofs.Lists.{every}

in_middle : {A : Type 0} (xs ys : List A) (x : A) → Contains (xs ++ x ∷ ys) x
in_middle [] ys x = contains_first x ys
in_middle (z ∷ zs) ys x = contains_later z (zs ++ x ∷ ys) x (in_middle zs ys x)

is_word : (c : Cause) → (c ≡ cause.Word) ⊎ (c ≢ cause.Word)
is_word cause.Undeclared = inr (λ e. cc)
is_word cause.Unproductive = inr (λ e. cc)
is_word cause.Empty = inr (λ e. cc)
is_word cause.Word = inl refl

-- the kids at a place
module _ (g : PlainDtd) (root : List ℕ) (doc : PlainDoc Mark) (path : List ℕ) (p : OwnedList) (at : IsPlaceAt root doc path p) where
  pub fits : AllByRecursion (IsListForVerdict g) (lists_of doc) → FitsVerdict g (length (word_of g (forest p.kids.now)))
  fits narrow =
      let P : Forest Mark → Type 0 = λ ks. FitsVerdict g (length (word_of g ks)) in
      subst P at.is_place.kids (every (IsListForVerdict g) (lists_of doc) at.list narrow at.is_listed)

  -- the list there isn't live
  not_live : OneListAtPath Mark → IsFirstImpossible g root (lists_of doc) path → IsLive g root at.list → ⊥
  not_live paths f live =
      let P : List (Listed Mark) → Type 0 = λ ls. Contains ls f.list in
      let here = subst P (sym f.is_split) (in_middle f.before f.after f.list) in
      let same = paths doc at.list f.list at.is_listed here (at.is_path ∙ f.is_path) in
      f.is_not (subst (IsLive g root) same live)

  -- its word, by its kids
  same_word : word_of g at.list.kids ≡ word_of g (forest p.kids.now)
  same_word = ap (λ ks. word_of g ks) at.is_place.kids

  few_by : (c : Cause) (rows : List Row) → HasRowsBy g (word_of g (forest p.kids.now)) c rows → (c ≡ cause.Word) ⊎ (c ≢ cause.Word) → values_in rows ≤ most_values
  few_by c rows h (inl e) = (h.by_word e).few
  few_by c rows h (inr n) = let P : List Row → Type 0 = λ v. values_in v ≤ most_values in subst P (sym (h.none n)) (omega arith)

  pub denial_there : (paths : OneListAtPath Mark) → AllByRecursion (IsListForVerdict g)
      (lists_of doc) → IsFirstImpossible g root (lists_of doc) path → (d : Denial) → d.path ≡ path →
      IsCause g root at.list d.cause →
      HasRowsBy g (word_of g (forest p.kids.now)) d.cause d.rows → IsDenialOf g root doc d
  denial_there paths narrow first d is_path is_cause rows = record {
    list = at.list;
    is_about = record { is_listed = at.is_listed; is_path = at.is_path ∙ sym is_path };
    is_first = subst (IsFirstImpossible g root (lists_of doc)) (sym is_path) first;
    impossible = not_live paths first;
    narrow = narrow;
    is_cause = is_cause;
    by_word = λ e.
        let h = rows.by_word e in
        let P : List PlainToken → Type 0 = λ w. IsLiveWord g w h.live in
        (h.live, subst P (sym same_word) h.is_live, h.furthest);
    few = few_by d.cause d.rows rows (is_word d.cause);
    no_rows = rows.none;
  }

  pub too_many_there : (paths : OneListAtPath Mark) → AllByRecursion (IsListForVerdict g)
      (lists_of doc) → IsFirstImpossible g root (lists_of doc) path → (c : Cause) →
      IsCause g root at.list c → c ≡ cause.Word →
      HasManyValues g (word_of g (forest p.kids.now)) → HasTooMany g root doc
  too_many_there paths narrow first c is_cause by_word many =
      let P : List PlainToken → Type 0 = λ w. IsLiveWord g w many.live in
      record {
        list = at.list;
        is_listed = at.is_listed;
        is_first = subst (IsFirstImpossible g root (lists_of doc)) (sym at.is_path) first;
        impossible = not_live paths first;
        narrow = narrow;
        is_cause = subst (IsCause g root at.list) by_word is_cause;
        live = many.live;
        is_live = subst P (sym same_word) many.is_live;
        sites = many.sites;
        are_sites = many.are_sites;
        many = many.many;
      }

-- a list stands at the path of the first impossible one
pub stands_there : (g : PlainDtd) (root : List ℕ) (doc : PlainDoc Mark) (path : List ℕ) →
    IsFirstImpossible g root (lists_of doc) path → ((list : Listed Mark) →
    Contains (lists_of doc) list → list.path ≡ path → ⊥) → ⊥
stands_there g root doc path f none =
    let P : List (Listed Mark) → Type 0 = λ ls. Contains ls f.list in
    none f.list (subst P (sym f.is_split) (in_middle f.before f.after f.list)) (sym f.is_path)

-- one outcome, so the answer is it
module _ {M : Type 0} (one : OneOutcome M) (g : PlainDtd) (root : List ℕ) (doc : PlainDoc M) (proper : IsProperDtd g) (proper_doc : IsProperDoc doc) where
  answers_ok : (d : Denial) → IsDenialOf g root doc d → (o : Outcome) → HasOutcome g root doc o → Answers o (Ok d)
  answers_ok d m o n = subst (λ p. Answers p (Ok d)) (one g root doc (is_denial d) o proper proper_doc m n) refl

  answers_err : (error : DenyError) → HasOutcomeBy g root doc error → (o : Outcome) → HasOutcome g root doc o → Answers o (Err error)
  answers_err (TooWide path) m o n = subst (λ p. Answers p (Err (TooWide path))) (one g root doc (is_too_wide path) o proper proper_doc m n) refl
  answers_err Possible m o n = subst (λ p. Answers p (Err Possible)) (one g root doc is_possible o proper proper_doc m n) tt
  answers_err TooMany m o n = subst (λ p. Answers p (Err TooMany)) (one g root doc is_too_many o proper proper_doc m n) tt
  answers_err NoMemory m (is_denial d) n = tt
  answers_err NoMemory m (is_too_wide path) n = tt
  answers_err NoMemory m is_possible n = tt
  answers_err NoMemory m is_too_many n = tt

  pub answers_result : (r : Result Denial DenyError) → IfOk r (IsDenialOf g root doc) → IfErr r (HasOutcomeBy g root doc) → (o : Outcome) → HasOutcome g root doc o → Answers o r
  answers_result (Ok d) denied refused o m = answers_ok d denied o m
  answers_result (Err error) denied refused o m = answers_err error refused o m
