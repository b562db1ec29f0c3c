-- The tables of a document are closed.
use Rattle.std.proofs.Common.{List, Some, [], arith, get_or, refl, subst, suc, sym, ℕ, ◌∷◌, ◌≡◌}
use Rattle.std.specs.List.{All, AllPairs, Contains}
use Rattle.std.proofs.lemmas.List.Elements.{All-cons, All-nil, All-weaker}
use Rattle.std.proofs.lemmas.List.Kept.{AllPairs-cons}
use Rattle.pv_model.specs.Plain.{PlainToken}
use Rattle.pv_dtd.specs.Plain.{PlainDtd}
use Rattle.pv_dtd.specs.Proper.{IsProperDtd}
use Rattle.pv_tree.specs.Laws.{ListsAscend}
use Rattle.pv_tree.specs.Lists.{Listed, Owner, an_element, lists_of, the_document}
use Rattle.pv_tree.specs.PathOrder.{IsListBefore, IsPathBefore}
use Rattle.pv_tree.specs.Plain.{Forest}
use Rattle.pv_tree.specs.Words.{word_of}
use Rattle.pv_tree.specs.declared.nodes.Verdict.TheVariants as verdict
use Rattle.pv_tree.proofs.JoinedLists.{contains_first, contains_later}
use Rattle.pv_rules.specs.Sites.{PlainSite, content_site, name_site}
use Rattle.pv_missing.specs.ListLaws.{KnownWord}
use Rattle.pv_missing.specs.Verdicts.{IsLiveBy, IsVerdict}
use Rattle.pv_missing.specs.ListWeights.{site_of}
use Rattle.pv_tables.specs.TableLaws.{EntriesAreClosed}
use Rattle.pv_tables.specs.Tables.{AreAllEntries, AreTables, IsEntry, IsTableOf, no_list, other_list, possible_list}
use Rattle.pv_tables.specs.WeightLaws.{LiveIsWord}
use Rattle.pv_tables.specs.declared.tables.Table.{Table}
use Rattle.pv_table_check.specs.ClosedEntries.{AreOver, IsEntryOver}
use Rattle.pv_table_check.specs.ClosedTables.{IsClosedTable}
use Rattle.pv_table_check.specs.Laws.{TablesAreClosed}

abbrev Before : Table → Table → Type 0
Before t u = IsPathBefore t.path u.path

first_before : {X : Type 0} (R : X → X → Type 0) (a : X) (xs : List X) → AllPairs R (a ∷ xs) → (x : X) → Contains xs x → R a x
first_before R a xs p x (k, lt, h) = let q : R a (get_or xs k x) = p 0 (suc k) x (omega arith) (omega arith) in subst (R a) h q

others : {X : Type 0} (R : X → X → Type 0) (a : X) (xs : List X) → AllPairs R (a ∷ xs) → AllPairs R xs
others R a xs p i j d lt within = p (suc i) (suc j) d (omega arith) (omega arith)

over_all : (g : PlainDtd) (w : List PlainToken) (t : Table) → AreAllEntries g w t.entries → AreOver g w t.entries
over_all g w t a = record {
  each = All-weaker (IsEntry g w) (IsEntryOver g w) (λ e i. record { is_site = i.is_site; is_span = i.is_span; light = i.light }) t.entries a.are.each;
  ascend = a.are.ascend;
}

module _ (g : PlainDtd) (root : List ℕ) {M : Type 0} where
  -- the owner of a live list has a site
  live_site : (owner : Owner) (kids : Forest M) → IsLiveBy g root owner kids → (s : PlainSite) × (site_of g root owner ≡ Some s)
  live_site the_document kids l = (name_site l.number, rw l.is_owner refl)
  live_site (an_element x) kids l = (content_site l.number, rw l.is_owner refl)

  -- the path is that of one of the lists
  abbrev IsAt : List (Listed M) → Table → Type 0
  IsAt lists t = (l : Listed M) × Contains lists l × (t.path ≡ l.path)

  at_more : (list : Listed M) (lists : List (Listed M)) (ts : List Table) → All (IsAt lists) ts → All (IsAt (list ∷ lists)) ts
  at_more list lists ts a = All-weaker (IsAt lists) (IsAt (list ∷ lists)) (λ t h. (h.0, contains_later list lists h.0 h.1, h.2)) ts a

  at_lists : (lists : List (Listed M)) (ts : List Table) → AreTables g root lists ts → All (IsAt lists) ts
  at_lists _ _ no_list = All-nil (IsAt [])
  at_lists _ _ (possible_list list lists t ts p i a) = All-cons (IsAt (list ∷ lists)) t ts (list, contains_first list lists, i.is_path) (at_more list lists ts (at_lists lists ts a))
  at_lists _ _ (other_list list lists ts p a) = at_more list lists ts (at_lists lists ts a)

  ascend : (lists : List (Listed M)) (ts : List Table) → AllPairs IsListBefore lists → AreTables g root lists ts → AllPairs Before ts
  ascend _ _ p no_list = λ i j d lt within. absurd (omega arith)
  ascend _ _ p (possible_list list lists t ts q i a) = AllPairs-cons Before t ts
      (All-weaker (IsAt lists) (Before t) (λ u h. subst (λ x. IsPathBefore t.path x) (sym h.2)
      (subst (λ x. IsPathBefore x h.0.path) (sym i.is_path) (first_before IsListBefore list
      lists p h.0 h.1))) ts (at_lists lists ts a))
      (ascend lists ts (others IsListBefore list lists p) a)
  ascend _ _ p (other_list list lists ts q a) = ascend lists ts (others IsListBefore list lists p) a

  module _ (is_word : LiveIsWord M) (closed : EntriesAreClosed) (known : KnownWord M) (proper : IsProperDtd g) (all : List (Listed M)) where
    one_closed : (list : Listed M) (t : Table) → Contains all list → IsVerdict g root list verdict.Possible → IsTableOf g list t → IsClosedTable g root all t
    one_closed list t here possible of =
        let site = live_site list.owner list.kids possible.0 in
        record {
          list = list;
          is_listed = here;
          is_path = of.is_path;
          site = site.0;
          is_site = site.1;
          over = over_all g (word_of g list.kids) t entries;
          closed = closed g (word_of g list.kids) t.entries proper (known g list.kids) entries;
        }
      where
        entries : AreAllEntries g (word_of g list.kids) t.entries
        entries = subst (λ (v : List PlainToken). AreAllEntries g v t.entries) (is_word g root list of.live possible.0 of.is_live) of.entries

    each_closed : (lists : List (Listed M)) (ts : List Table) → ((l : Listed M) → Contains lists l → Contains all l) → AreTables g root lists ts → All (IsClosedTable g root all) ts
    each_closed _ _ sub no_list = All-nil (IsClosedTable g root all)
    each_closed _ _ sub (possible_list list lists t ts p i a) =
        All-cons (IsClosedTable g root all) t ts (one_closed list t (sub list (contains_first list lists)) p i) (each_closed lists ts (λ l m. sub l (contains_later list lists l m)) a)
    each_closed _ _ sub (other_list list lists ts p a) = each_closed lists ts (λ l m. sub l (contains_later list lists l m)) a

pub tables_closed : EntriesAreClosed → (M : Type 0) → LiveIsWord M → KnownWord M → ListsAscend M → TablesAreClosed M
tables_closed closed M is_word known lists_ascend g root doc ts proper are = record {
  ascend = ascend g root (lists_of doc) ts (lists_ascend doc) are;
  each = each_closed g root is_word closed known proper (lists_of doc) (lists_of doc) ts (λ l m. m) are;
}
