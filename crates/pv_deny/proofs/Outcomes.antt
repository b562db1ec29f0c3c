-- A document has one outcome.
use Rattle.std.proofs.Common.{List, None, Option, Some, ap, arith, inl, inr, length, map, refl, slice_get, subst, suc, sym, ℕ, ◌*◌, ◌<◌, ◌∙◌, ◌∷◌, ◌≡◌, ◌≢◌, ◌≤◌, ◌⊎◌}
use Rattle.std.specs.List.{AllByRecursion, Contains}
use Rattle.std.specs.Option.{option_map}
use Rattle.std.proofs.lemmas.List.{length-map}
use Rattle.std.proofs.lemmas.Option.{slice_get-map}
use Rattle.pv_model.specs.Plain.{PlainToken}
use Rattle.pv_model.specs.declared.models.NameId.{NameId}
use Rattle.pv_dtd.specs.Plain.{PlainDtd, number_of}
use Rattle.pv_dtd.specs.Proper.{IsProperDtd}
use Rattle.pv_rules.specs.PlainForms.{plain_site}
use Rattle.pv_rules.specs.Sites.{PlainSite}
use Rattle.pv_rules.specs.declared.sites.Site.{Site}
use Rattle.pv_rules.specs.declared.sites.Site.TheVariants as site
use Rattle.pv_tree.specs.Lists.{Listed, Owner, an_element, lists_of, the_document}
use Rattle.pv_tree.specs.Plain.{Forest, PlainDoc}
use Rattle.pv_tree.specs.View.{view}
use Rattle.pv_tree.specs.Words.{word_of}
use Rattle.pv_tree.proofs.JoinedLists.{all_right}
use Rattle.pv_tree.proofs.FirstLists.{one_first}
use Rattle.pv_missing.specs.Completions.{IsPotentiallyValid}
use Rattle.pv_missing.specs.DocumentLaws.{IsPotentiallyValidByLists}
use Rattle.pv_missing.specs.LiveWords.{IsLiveWord}
use Rattle.pv_missing.specs.Proper.{IsProperDoc}
use Rattle.pv_missing.specs.Verdicts.{IsLive}
use Rattle.pv_missing.specs.Widths.{IsFirstTooWide, IsListForVerdict}
use Rattle.pv_missing.specs.WordLaws.{OneLiveWord}
use Rattle.pv_tables.specs.TableLaws.{OneListAtPath}
use Rattle.pv_reach.specs.FurthestEnds.{IsGreatestEnd}
use Rattle.pv_denial.specs.Causes.{HasKidsInEmpty, IsCause, owner_name}
use Rattle.pv_denial.specs.Rows.{AreInOrder, IsSiteBefore, most_values, values_in}
use Rattle.pv_denial.specs.declared.denials.Cause.{Cause}
use Rattle.pv_denial.specs.declared.denials.Cause.TheVariants as cause
use Rattle.pv_denial.specs.declared.denials.Denial.{Denial}
use Rattle.pv_denial.specs.declared.denials.Row.{Row}
use Rattle.pv_deny.specs.DocumentDenials.{AreDerivingSites, AreFurthestRows, HasOutcome, HasTooMany}
use Rattle.pv_deny.specs.DocumentDenials.{IsDenialOf, IsFurthestRow, Outcome, is_denial}
use Rattle.pv_deny.specs.DocumentDenials.{is_possible, is_too_many, is_too_wide}
use Rattle.pv_denial.proofs.Lists.{every, one_ascending, same_list}
use Rattle.pv_deny.proofs.RowFacts.{values_in_rows}

never_both : (a b : PlainSite) → IsSiteBefore a b → IsSiteBefore b a → ⊥
never_both a b (inl x) (inl y) = omega arith
never_both a b (inl x) (inr (e, y)) = omega arith
never_both a b (inr (e, x)) (inl y) = omega arith
never_both a b (inr (e, x)) (inr (f, y)) = omega arith

-- a site of the program is told by its plain form
name_same : (i j : NameId) → i.0 ≡ j.0 → i ≡ j
name_same i j e = λ k. record { 0 = e k }

site_same : (s t : Site) → plain_site s ≡ plain_site t → s ≡ t
site_same (site.Name i) (site.Name j) e = ap site.Name (name_same i j cc)
site_same (site.Name i) (site.Content j) e = cc
site_same (site.Name i) (site.Part q) e = cc
site_same (site.Name i) (site.Rest q) e = cc
site_same (site.Content i) (site.Name j) e = cc
site_same (site.Content i) (site.Content j) e = ap site.Content (name_same i j cc)
site_same (site.Content i) (site.Part q) e = cc
site_same (site.Content i) (site.Rest q) e = cc
site_same (site.Part p) (site.Name j) e = cc
site_same (site.Part p) (site.Content j) e = cc
site_same (site.Part p) (site.Part q) e = ap site.Part cc
site_same (site.Part p) (site.Rest q) e = cc
site_same (site.Rest p) (site.Name j) e = cc
site_same (site.Rest p) (site.Content j) e = cc
site_same (site.Rest p) (site.Part q) e = cc
site_same (site.Rest p) (site.Rest q) e = ap site.Rest cc

module _ (g : PlainDtd) (w : List PlainToken) where
  -- the row of a site of furthest places is one
  row_same : (q r : Row) → IsFurthestRow g w q → IsFurthestRow g w r → plain_site q.site ≡ plain_site r.site → q ≡ r
  row_same q r a b e =
      let sites = site_same q.site r.site e in
      let values = same_list q.values r.values (a.long ∙ sym b.long) same_value in
      λ i. record { site = sites i; values = values i }
    where
      same_value : (k u v : ℕ) → slice_get q.values k ≡ Some u → slice_get r.values k ≡ Some v → u ≡ v
      same_value k u v x y =
          let one = a.ends k u x in
          let P : PlainSite → Type 0 = λ s. IsGreatestEnd g w s k (Some v) in
          let other = subst P (sym e) (b.ends k v y) in
          let le = other.1 u one.0 in let ge = one.1 v other.0 in omega arith

  abbrev BeforeRow : Row → Row → Type 0
  BeforeRow q r = IsSiteBefore (plain_site q.site) (plain_site r.site)

  rows_among : (rows others : List Row) → AreFurthestRows g w rows → AreFurthestRows g w others → (k : ℕ) (r : Row) → slice_get rows k ≡ Some r → (m : ℕ) × (slice_get others m ≡ Some r)
  rows_among rows others a b k r e =
      let is = a.each k r e in
      let o = b.all (plain_site r.site) is.has is.derives in
      (o.0, o.2 ∙ ap (λ v. Some v) (row_same o.1 r (b.each o.0 o.1 o.2) is o.3))

  one_rows : (rows others : List Row) → AreFurthestRows g w rows → AreFurthestRows g w others → rows ≡ others
  one_rows rows others a b =
      one_ascending BeforeRow (λ q r. never_both (plain_site q.site) (plain_site r.site)) rows others a.ascend b.ascend (rows_among rows others a b) (rows_among others rows b a)

  -- the sites of the rows are all sites that derive something
  row_site_at : (rows : List Row) (k : ℕ) (s : PlainSite) (o : Option Row) → slice_get rows k ≡ o →
      slice_get (map (λ (r : Row). plain_site r.site) rows) k ≡ Some s →
      (r : Row) × (slice_get rows k ≡ Some r) × (plain_site r.site ≡ s)
  row_site_at rows k s None e f =
      let m : slice_get (map (λ (r : Row). plain_site r.site) rows) k ≡ None =
      slice_get-map (λ (r : Row). plain_site r.site) rows k
      ∙ ap (λ v. option_map (λ (r : Row). plain_site r.site) v) e in absurd cc
  row_site_at rows k s (Some r) e f =
      let m : slice_get (map (λ (r : Row). plain_site r.site) rows) k ≡ Some (plain_site r.site) =
      slice_get-map (λ (r : Row). plain_site r.site) rows k
      ∙ ap (λ v. option_map (λ (r : Row). plain_site r.site) v) e in (r, e, cc)

  one_sites : (rows : List Row) (sites : List PlainSite) → AreFurthestRows g w rows → AreDerivingSites g w sites → map (λ (r : Row). plain_site r.site) rows ≡ sites
  one_sites rows sites a b = one_ascending IsSiteBefore never_both (map (λ (r : Row). plain_site r.site) rows) sites up b.ascend among back
    where
      up : (j k : ℕ) (s t : PlainSite) → j < k → slice_get (map (λ (r : Row). plain_site r.site) rows) j ≡ Some s → slice_get (map (λ (r : Row). plain_site r.site) rows) k ≡ Some t → IsSiteBefore s t
      up j k s t lt e f =
          let q = row_site_at rows j s (slice_get rows j) refl e in let r = row_site_at rows k t (slice_get rows k) refl f in
          let P : PlainSite → Type 0 = λ v. IsSiteBefore v t in let Q : PlainSite → Type 0 = λ v. IsSiteBefore (plain_site q.0.site) v in
          subst P q.2 (subst Q r.2 (a.ascend j k q.0 r.0 lt q.1 r.1))

      among : (k : ℕ) (s : PlainSite) → slice_get (map (λ (r : Row). plain_site r.site) rows) k ≡ Some s → (m : ℕ) × (slice_get sites m ≡ Some s)
      among k s e =
          let r = row_site_at rows k s (slice_get rows k) refl e in
          let is = a.each k r.0 r.1 in
          let P : PlainSite → Type 0 = λ v. (m : ℕ) × (slice_get sites m ≡ Some v) in
          subst P r.2 (b.all (plain_site r.0.site) is.has is.derives)

      back : (k : ℕ) (s : PlainSite) → slice_get sites k ≡ Some s → (m : ℕ) × (slice_get (map (λ (r : Row). plain_site r.site) rows) m ≡ Some s)
      back k s e =
          let is = b.each k s e in let o = a.all s is.0 is.1 in
          (o.0, slice_get-map (λ (r : Row). plain_site r.site) rows o.0 ∙ ap (λ v. option_map (λ (r : Row). plain_site r.site) v) o.2 ∙ ap (λ v. Some v) o.3)

  not_many : (rows : List Row) (sites : List PlainSite) → AreFurthestRows g w rows → AreDerivingSites g w sites → values_in rows ≤ most_values → most_values < length sites * suc (length w) → ⊥
  not_many rows sites a b few many =
      let size = ap length (sym (one_sites rows sites a b)) ∙ length-map rows (λ (r : Row). plain_site r.site) in
      let n = values_in_rows rows (suc (length w)) (λ k r e. (a.each k r e).long) in
      let m : length sites * suc (length w) ≡ values_in rows = ap (λ k. k * suc (length w)) size ∙ sym n in
      omega arith

-- the cause of a list is one
module _ {M : Type 0} (g : PlainDtd) (root : List ℕ) (list : Listed M) where
  known_by_kids : (o : Owner) (kids : Forest M) → HasKidsInEmpty g o kids → number_of g (owner_name root o) ≡ None → ⊥
  known_by_kids the_document kids h e = h
  known_by_kids (an_element name) kids h e = let k = h.1 in cc

  one_cause : (c d : Cause) → IsCause g root list c → IsCause g root list d → c ≡ d
  one_cause cause.Undeclared cause.Undeclared p q = refl
  one_cause cause.Undeclared cause.Unproductive p q = let k = q.1 in cc
  one_cause cause.Undeclared cause.Empty p q = absurd (known_by_kids list.owner list.kids q.0 p)
  one_cause cause.Undeclared cause.Word p q = let k = q.0.1 in cc
  one_cause cause.Unproductive cause.Undeclared p q = let k = p.1 in cc
  one_cause cause.Unproductive cause.Unproductive p q = refl
  one_cause cause.Unproductive cause.Empty p q = absurd (q.1 p)
  one_cause cause.Unproductive cause.Word p q = absurd (q.1 p)
  one_cause cause.Empty cause.Undeclared p q = absurd (known_by_kids list.owner list.kids p.0 q)
  one_cause cause.Empty cause.Unproductive p q = absurd (p.1 q)
  one_cause cause.Empty cause.Empty p q = refl
  one_cause cause.Empty cause.Word p q = absurd (q.2 p.0)
  one_cause cause.Word cause.Undeclared p q = let k = p.0.1 in cc
  one_cause cause.Word cause.Unproductive p q = absurd (p.1 q)
  one_cause cause.Word cause.Empty p q = absurd (p.2 q.0)
  one_cause cause.Word cause.Word p q = refl

is_word : (c : Cause) → (c ≡ cause.Word) ⊎ (c ≢ cause.Word)
is_word cause.Undeclared = inr (λ e. cc)
is_word cause.Unproductive = inr (λ e. cc)
is_word cause.Empty = inr (λ e. cc)
is_word cause.Word = inl refl

module _ (M : Type 0) (paths : OneListAtPath M) (words : OneLiveWord) (g : PlainDtd) (root : List ℕ) (doc : PlainDoc M) where
  same_rows : (d e : Denial) (a : IsDenialOf g root doc d) (b : IsDenialOf g root doc e) → a.list ≡ b.list → d.cause ≡ e.cause → (d.cause ≡ cause.Word) ⊎ (d.cause ≢ cause.Word) → d.rows ≡ e.rows
  same_rows d e a b lists causes (inl c) =
      let x = a.by_word c in let y = b.by_word (sym causes ∙ c) in
      let P : Listed M → Type 0 = λ l. IsLiveWord g (word_of g l.kids) x.0 in
      let lives = words g (word_of g b.list.kids) x.0 y.0 (subst P lists x.1) y.1 in
      let Q : List PlainToken → Type 0 = λ v. AreFurthestRows g v d.rows in
      one_rows g y.0 d.rows e.rows (subst Q lives x.2) y.2
  same_rows d e a b lists causes (inr n) = a.no_rows n ∙ sym (b.no_rows (λ c. n (causes ∙ c)))

  pub same_denial : (d e : Denial) → IsDenialOf g root doc d → IsDenialOf g root doc e → d ≡ e
  same_denial d e a b =
      let path = one_first (IsLive g root) (lists_of doc) d.path e.path a.is_first b.is_first in
      let lists = paths doc a.list b.list a.is_about.is_listed b.is_about.is_listed (a.is_about.is_path ∙ path ∙ sym b.is_about.is_path) in
      let P : Listed M → Type 0 = λ l. IsCause g root l d.cause in
      let causes = one_cause g root b.list d.cause e.cause (subst P lists a.is_cause) b.is_cause in
      let rows = same_rows d e a b lists causes (is_word d.cause) in
      λ i. record { path = path i; cause = causes i; rows = rows i }

  -- no list is too wide where all are narrow
  none_wide : (path : List ℕ) → AllByRecursion (IsListForVerdict g) (lists_of doc) → IsFirstTooWide g (lists_of doc) path → ⊥
  none_wide path all f =
      let P : List (Listed M) → Type 0 = λ ls. AllByRecursion (IsListForVerdict g) ls in
      f.is_not (all_right (IsListForVerdict g) f.before (f.list ∷ f.after) (subst P f.is_split all)).0

  pub not_too_many : (d : Denial) → IsDenialOf g root doc d → HasTooMany g root doc → ⊥
  not_too_many d a m =
      let path = one_first (IsLive g root) (lists_of doc) d.path m.list.path a.is_first m.is_first in
      let lists = paths doc a.list m.list a.is_about.is_listed m.is_listed (a.is_about.is_path ∙ path) in
      let P : Listed M → Type 0 = λ l. IsCause g root l d.cause in
      let c = one_cause g root m.list d.cause cause.Word (subst P lists a.is_cause) m.is_cause in
      let x = a.by_word c in
      let L : Listed M → Type 0 = λ l. IsLiveWord g (word_of g l.kids) x.0 in
      let lives = words g (word_of g m.list.kids) x.0 m.live (subst L lists x.1) m.is_live in
      let Q : List PlainToken → Type 0 = λ v. AreFurthestRows g v d.rows in
      not_many g m.live d.rows m.sites (subst Q lives x.2) m.are_sites a.few m.many

module _ (M : Type 0) (paths : OneListAtPath M) (words : OneLiveWord)
    (live_lists : IsPotentiallyValidByLists M) (g : PlainDtd) (root : List ℕ) (doc : PlainDoc M)
    (proper : IsProperDtd g) (proper_doc : IsProperDoc doc) where
  -- a document isn't potentially valid where a list isn't live
  not_possible : (list : Listed M) → Contains (lists_of doc) list → (IsLive g root list → ⊥) → IsPotentiallyValid g root (view doc.root) → ⊥
  not_possible list here not p = not (every (IsLive g root) (lists_of doc) list ((live_lists g root doc proper proper_doc).0 p) here)

  pub one_outcome : (o p : Outcome) → HasOutcome g root doc o → HasOutcome g root doc p → o ≡ p
  one_outcome (is_denial d) (is_denial e) a b = ap is_denial (same_denial M paths words g root doc d e a b)
  one_outcome (is_denial d) (is_too_wide path) a b = absurd (none_wide M paths words g root doc path a.narrow b)
  one_outcome (is_denial d) is_possible a b = absurd (not_possible a.list a.is_about.is_listed a.impossible b.1)
  one_outcome (is_denial d) is_too_many a b = absurd (not_too_many M paths words g root doc d a b)
  one_outcome (is_too_wide path) (is_denial e) a b = absurd (none_wide M paths words g root doc path b.narrow a)
  one_outcome (is_too_wide path) (is_too_wide other) a b = ap is_too_wide (one_first (IsListForVerdict g) (lists_of doc) path other a b)
  one_outcome (is_too_wide path) is_possible a b = absurd (none_wide M paths words g root doc path b.0 a)
  one_outcome (is_too_wide path) is_too_many a b = absurd (none_wide M paths words g root doc path b.narrow a)
  one_outcome is_possible (is_denial e) a b = absurd (not_possible b.list b.is_about.is_listed b.impossible a.1)
  one_outcome is_possible (is_too_wide path) a b = absurd (none_wide M paths words g root doc path a.0 b)
  one_outcome is_possible is_possible a b = refl
  one_outcome is_possible is_too_many a b = absurd (not_possible b.list b.is_listed b.impossible a.1)
  one_outcome is_too_many (is_denial e) a b = absurd (not_too_many M paths words g root doc e b a)
  one_outcome is_too_many (is_too_wide path) a b = absurd (none_wide M paths words g root doc path a.narrow b)
  one_outcome is_too_many is_possible a b = absurd (not_possible a.list a.is_listed a.impossible b.1)
  one_outcome is_too_many is_too_many a b = refl

-- rows of furthest places stand in order
pub in_order : (M : Type 0) (g : PlainDtd) (root : List ℕ) (doc : PlainDoc M) (d : Denial) → IsDenialOf g root doc d → AreInOrder d.rows
in_order M g root doc d is = by (is_word d.cause)
  where
    by : (d.cause ≡ cause.Word) ⊎ (d.cause ≢ cause.Word) → AreInOrder d.rows
    by (inl e) =
        let rows = (is.by_word e).2 in
        record { ascend = rows.ascend; some = λ k r f none. let long = (rows.each k r f).long in let short = ap length none in omega arith; few = is.few }
    by (inr n) =
        let P : List Row → Type 0 = λ v. AreInOrder v in
        subst P (sym (is.no_rows n)) record { ascend = λ j k q r lt e f. absurd cc; some = λ k r f. absurd cc; few = omega arith }
