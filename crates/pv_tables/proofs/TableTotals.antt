-- The whole-list values of the tables of a document add up to its least number.
use Rattle.std.proofs.Common.{List, Some, [], ap, arith, get_or, inl, inr, length, refl, subst, suc, sym, ℕ, ◌<◌, ◌∙◌, ◌∷◌, ◌≡◌, ◌≤◌, ◌⊎◌}
use Rattle.std.specs.List.{AllByRecursion, AllPairs, Contains}
use Rattle.std.specs.Prelude.{Bool, Option, None, false, if◌then◌else◌, true}
use Rattle.std.specs.Option.{option_map}
use Rattle.std.specs.Str.{bytes_eq}
use Rattle.std.proofs.lemmas.Bool.{cases_lt}
use Rattle.std.proofs.lemmas.List.{get_or_default}
use Rattle.pv_model.specs.Plain.{PlainToken}
use Rattle.pv_dtd.specs.Plain.{PlainDtd, number_of, place_of}
use Rattle.pv_dtd.specs.Proper.{IsProperDtd}
use Rattle.pv_tree.specs.Lists.{Listed, Owner, an_element, lists_of, the_document}
use Rattle.pv_tree.specs.Laws.{ListsAscend}
use Rattle.pv_tree.specs.PathOrder.{IsListBefore, IsPathBefore}
use Rattle.pv_tree.specs.Words.{word_of}
use Rattle.pv_tree.specs.declared.nodes.Verdict.{Verdict}
use Rattle.pv_tree.specs.declared.nodes.Verdict.TheVariants as verdict
use Rattle.pv_tree.proofs.PathOrder.{before_itself}
use Rattle.pv_rules.specs.Sites.{HasSite, PlainSite, content_site, name_site}
use Rattle.pv_missing.specs.DocumentLaws.{IsPotentiallyValidByLists, WeightsAddUp}
use Rattle.pv_missing.specs.ListLaws.{ValidMissesNone}
use Rattle.pv_missing.specs.Verdicts.{AreVerdicts, IsLive, IsVerdict}
use Rattle.pv_missing.specs.ListWeights.{WeighInAll, Weighs, site_of, whole}
use Rattle.pv_missing.specs.WordLaws.{LiveFollows, OneLiveWord}
use Rattle.pv_tables.specs.TableLaws.{TablesAddUp}
use Rattle.pv_tables.specs.Tables.{AreAllEntries, AreTables, IsTableOf}
use Rattle.pv_tables.specs.Values.{HasWholeValue, HaveTotal, listed_value}
use Rattle.pv_tables.specs.declared.tables.Table.{Table}
use Rattle.pv_tables.proofs.OneTables.{Splits, none_of, split_tables}
use Rattle.pv_tables.proofs.WeightSums.{same_word}
use Rattle.pv_tables.proofs.Values.{entry_weighs}

-- a name's number is below the count of names
place_behind : (ns : List (List ℕ)) (x : List ℕ) (y : ℕ) (b : Bool) (o : Option ℕ) →
    ((k : ℕ) → place_of ns x ≡ Some k → k < length ns) → place_of ns x ≡ o →
    (if b then Some 0 else option_map suc o) ≡ Some y → y < suc (length ns)
place_behind ns x y true o more h f = let z : 0 ≡ y = cc in omega arith
place_behind ns x y false None more h f = absurd cc
place_behind ns x y false (Some k) more h f = let z : suc k ≡ y = cc in let l = more k h in omega arith

place_within : (ns : List (List ℕ)) (x : List ℕ) (y : ℕ) → place_of ns x ≡ Some y → y < length ns
place_within [] x y e = absurd cc
place_within (n ∷ ns) x y e = place_behind ns x y (bytes_eq x n) (place_of ns x) (λ k h. place_within ns x k h) refl e

-- the site of an owner is one of the DTD
owner_has_site : (g : PlainDtd) (root : List ℕ) (owner : Owner) (s : PlainSite) → site_of g root owner ≡ Some s → HasSite g s
owner_has_site g root the_document s e = by_number (number_of g root) refl e
  where
    by_number : (o : Option ℕ) → number_of g root ≡ o → option_map name_site o ≡ Some s → HasSite g s
    by_number None h f = absurd cc
    by_number (Some n) h f = let z : name_site n ≡ s = cc in subst (HasSite g) z (place_within g.names root n h)
owner_has_site g root (an_element x) s e = by_number (number_of g x) refl e
  where
    by_number : (o : Option ℕ) → number_of g x ≡ o → option_map content_site o ≡ Some s → HasSite g s
    by_number None h f = absurd cc
    by_number (Some n) h f = let z : content_site n ≡ s = cc in subst (HasSite g) z (place_within g.names x n h)

module _ (M : Type 0) where
  -- lists of different places have different paths
  pub same_place : (lists : List (Listed M)) → AllPairs IsListBefore lists → (a b : Listed M) → Contains lists a → Contains lists b → a.path ≡ b.path → a ≡ b
  same_place lists ascend a b (i, l, h) (j, k, m) e = by_places (cases_lt i j) (cases_lt j i)
    where
      apart : (x y : Listed M) → IsPathBefore x.path y.path → x.path ≡ y.path → ⊥
      apart x y before same = before_itself y.path (subst (λ p. IsPathBefore p y.path) same before)

      one : get_or lists i b ≡ a
      one = get_or_default lists i b a l ∙ h

      other : get_or lists j a ≡ b
      other = get_or_default lists j a b k ∙ m

      by_places : (i < j) ⊎ (j ≤ i) → (j < i) ⊎ (i ≤ j) → a ≡ b
      by_places (inl less) more = absurd (apart a b (subst (λ (x : Listed M). IsListBefore x b) one (subst (λ (y : Listed M). IsListBefore (get_or lists i b) y) m (ascend i j b less k))) e)
      by_places (inr more) (inl less) =
          absurd (apart b a (subst (λ (x : Listed M). IsListBefore x a) other
          (subst (λ (y : Listed M). IsListBefore (get_or lists j a) y) h (ascend j i a less l))) (sym e))
      by_places (inr more) (inr less) = sym one ∙ (let same : i ≡ j = omega arith in ap (λ n. get_or lists n b) same) ∙ m

  module _ (follows : LiveFollows) (once : OneLiveWord) (g : PlainDtd) (root : List ℕ) where
    -- the whole-list value of its table is the weight of a live list
    table_weighs : (list : Listed M) (t : Table) (s : PlainSite) → IsLive g root list → site_of g root list.owner ≡ Some s → IsTableOf g list t →
        Weighs g root list (listed_value t.entries (whole s (word_of g list.kids)))
    table_weighs list t s live is_site of = (
      s,
      is_site,
      entry_weighs g (word_of g list.kids) t.entries entries s 0
          (length (word_of g list.kids)) (owner_has_site g root list.owner s is_site)
          (omega arith, omega arith),
    )
      where
        entries : AreAllEntries g (word_of g list.kids) t.entries
        entries = subst (λ (v : List PlainToken). AreAllEntries g v t.entries) (same_word follows once M g root list.owner list.kids of.live live of.is_live) of.entries

    module _ (proper : IsProperDtd g) (nothing : ValidMissesNone M) (all : List (Listed M)) (ascend : AllPairs IsListBefore all) where
      value_weighs : (list : Listed M) (t : Table) (a : ℕ) → Contains all list → IsLive g root list → IsTableOf g list t → HasWholeValue g root all t a → Weighs g root list a
      value_weighs list t a here live of v =
          subst (Weighs g root list) (sym v.is_value) (subst (λ (k : List PlainToken). Weighs g root
          list (listed_value t.entries (whole v.site k)))
          (ap (λ (l : Listed M). word_of g l.kids) same) (table_weighs list t v.site live
          (ap (λ (l : Listed M). site_of g root l.owner) same ∙ v.is_site) of))
        where
          same : list ≡ v.list
          same = same_place all ascend list v.list here v.is_listed (sym of.is_path ∙ v.is_path)

      weigh_one : (list : Listed M) (lists : List (Listed M)) (v : Verdict) (ts : List Table)
          (s : ℕ) → Contains all list → IsLive g root list → IsVerdict g root list v →
          Splits g M root list lists ts →
          ((us : List Table) (n : ℕ) → AreTables g root lists us → HaveTotal g root all us n → WeighInAll g root lists n) → HaveTotal g root all ts s → WeighInAll g root (list ∷ lists) s
      weigh_one list lists verdict.Valid ts s here live is (inl (p, more)) rest h = absurd (p.1 is.1)
      weigh_one list lists verdict.Valid ts s here live is (inr (p, are)) rest h = (0, s, omega arith, (nothing g root list proper is).1, rest ts s are h)
      weigh_one list lists verdict.Possible ts s here live is (inl (p, (t, us, e, of, are))) rest h =
          let k : HaveTotal g root all (t ∷ us) s = subst (λ (ys : List Table). HaveTotal g root all ys s) e h in
          (k.0, k.1, k.2, value_weighs list t k.0 here live of k.3, rest us k.1 are k.4)
      weigh_one list lists verdict.Possible ts s here live is (inr (p, are)) rest h = absurd (p is)
      weigh_one list lists verdict.Impossible ts s here live is split rest h = absurd (is live)

      all_weigh : (lists : List (Listed M)) (vs : List Verdict) (ts : List Table) (s : ℕ) →
          ((l : Listed M) → Contains lists l → Contains all l) →
          AllByRecursion (IsLive g root) lists → AreVerdicts g root lists vs →
          AreTables g root lists ts → HaveTotal g root all ts s → WeighInAll g root lists s
      all_weigh [] vs ts s sub live are tables h = subst (λ (ys : List Table). HaveTotal g root all ys s) (none_of g M root ts tables) h
      all_weigh (list ∷ lists) vs ts s sub live (v, rest, e, is, more) tables h =
          weigh_one list lists v ts s (sub list (0, omega arith, refl)) live.0 is (split_tables g M root list lists ts tables)
          (λ us n are k. all_weigh lists rest us n (λ l m. sub l (suc m.0, (let lt = m.1 in omega arith), m.2)) live.1 more are k) h

  pub tables_add_up : LiveFollows → OneLiveWord → ValidMissesNone M → ListsAscend M → IsPotentiallyValidByLists M → WeightsAddUp M → TablesAddUp M
  tables_add_up follows once nothing ascend by_lists add g root doc vs ts s proper proper_doc are valid tables h =
      add g root doc s proper proper_doc valid
      (all_weigh follows once g root proper nothing (lists_of doc) (ascend doc) (lists_of doc) vs ts s (λ l m. m) ((by_lists g root doc proper proper_doc).0 valid) are tables h)
