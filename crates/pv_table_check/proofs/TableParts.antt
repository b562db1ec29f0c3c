-- A table, by the list that stands at its path.
use Rattle.std.proofs.Common.{List, ap, arith, drop, drop-cons, get_or, length, map, subst, suc, sym, take, ℕ, ◌++◌, ◌<◌, ◌∙◌, ◌∷◌, ◌≡◌}
use Rattle.std.proofs.Common.{length-take-le}
use Rattle.std.specs.List.{Contains}
use Rattle.std.proofs.lemmas.List.{get_or-take, length-map, take-append-drop}
use Rattle.std.proofs.lemmas.List.Elements.{All-from_get_or}
use Rattle.pv_model.specs.Plain.{PlainToken}
use Rattle.pv_model.specs.PlainForms.{plain_token}
use Rattle.pv_model.specs.declared.models.Token.{Token}
use Rattle.pv_dtd.specs.Plain.{PlainDtd}
use Rattle.pv_rules.specs.Derivations.{IsClosed}
use Rattle.pv_rules.specs.Rules.{Rule, over}
use Rattle.pv_rules.specs.Sites.{PlainSite}
use Rattle.pv_tree.specs.Laws.{ListsStandAtPaths}
use Rattle.pv_tree.specs.Lists.{Listed, lists_of}
use Rattle.pv_tree.specs.Plain.{Forest, PlainDoc}
use Rattle.pv_tree.specs.Words.{word_of}
use Rattle.pv_missing.specs.Widths.{IsListForWeights}
use Rattle.pv_tables.specs.Values.{HasWholeValue, listed_value}
use Rattle.pv_tables.specs.declared.tables.Entry.{Entry}
use Rattle.pv_tables.specs.declared.tables.Table.{Table}
use Rattle.pv_table_check.specs.ClosedEntries.{AreOver}
use Rattle.pv_table_check.specs.ClosedTables.{IsClosedTable, IsFirstWideTable, IsListOf, IsNarrowTable}
use Rattle.pv_table_check.proofs.ListPlaces.{same_list}

module _ {M : Type 0} (g : PlainDtd) (root : List ℕ) (doc : PlainDoc M) (t : Table)
    (site : PlainSite) (kids : Forest M) (f : IsListOf g root (lists_of doc) t.path site kids)
    (w : List PlainToken) (e : w ≡ word_of g kids) where
  same_word : w ≡ word_of g f.list.kids
  same_word = e ∙ ap (word_of g) (sym f.are_kids)

  module _ (es : List Entry) (same : es ≡ t.entries) where
    -- the entries are over the word and closed exactly where the table is a closed one
    pub table_to : AreOver g w es → IsClosed (Rule g w) (listed_value es) → IsClosedTable g root (lists_of doc) t
    table_to o c = record {
      list = f.list;
      is_listed = f.is_listed;
      is_path = f.is_path;
      site = site;
      is_site = f.is_site;
      over = subst (λ v. AreOver g v t.entries) same_word (subst (AreOver g w) same o);
      closed = subst (λ v. IsClosed (Rule g v) (listed_value t.entries)) same_word (subst (λ (x : List Entry). IsClosed (Rule g w) (listed_value x)) same c);
    }

    pub table_from : ListsStandAtPaths M → IsClosedTable g root (lists_of doc) t → AreOver g w es × IsClosed (Rule g w) (listed_value es)
    table_from law c = (
      subst (AreOver g w) (sym same) (subst (λ v. AreOver g v t.entries) words c.over),
      subst (λ (x : List Entry). IsClosed (Rule g w) (listed_value x)) (sym same) (subst (λ v. IsClosed (Rule g v) (listed_value t.entries)) words c.closed),
    )
      where
        lists : c.list ≡ f.list
        lists = same_list doc.root c.list f.list ((law doc c.list).0 c.is_listed) ((law doc f.list).0 f.is_listed) (sym c.is_path ∙ f.is_path)

        words : word_of g c.list.kids ≡ w
        words = ap (λ (l : Listed M). word_of g l.kids) lists ∙ sym same_word

    -- the value for the whole word
    pub whole_value : (n k : ℕ) → n ≡ length w → k ≡ listed_value es (over site 0 n) → HasWholeValue g root (lists_of doc) t k
    whole_value n k long v = record {
      list = f.list;
      is_listed = f.is_listed;
      is_path = f.is_path;
      site = site;
      is_site = f.is_site;
      is_value = v ∙ ap (λ (x : List Entry). listed_value x (over site 0 n)) same ∙ ap (λ m. listed_value t.entries (over site 0 m)) (long ∙ ap length same_word);
    }

-- ---- widths
pub long_as : {M : Type 0} (g : PlainDtd) (tokens : List Token) (kids others : Forest M) → map plain_token tokens ≡ word_of g kids → others ≡ kids → length tokens ≡ length (word_of g others)
long_as g tokens kids others e same =
    let n : length (map plain_token tokens) ≡ length tokens = simp length-map in
    sym n ∙ ap length e ∙ ap (λ k. length (word_of g k)) (sym same)

module _ {M : Type 0} (g : PlainDtd) (lists : List (Listed M)) (ts : List Table) (i : ℕ) (t : Table) (is : t ≡ get_or ts i t) (few : i < length ts) where
  front : List Table
  front = take i ts

  pub first_wide : ((k : ℕ) (d : Table) → k < i → IsNarrowTable g lists (get_or ts k d)) → (list : Listed M) → Contains lists list → t.path ≡ list.path → (IsListForWeights g list → ⊥) →
      (path : List ℕ) → path ≡ t.path → IsFirstWideTable g lists ts path
  first_wide narrow list m e wide path p = record {
    before = take i ts;
    table = t;
    after = drop (suc i) ts;
    is_split = sym (take-append-drop i ts) ∙ ap (λ x. take i ts ++ x) (drop-cons ts i t few ∙ ap (λ x. x ∷ drop (suc i) ts) (sym is));
    all_before = All-from_get_or (IsNarrowTable g lists) (take i ts) t
        (λ k lt. let l : k < i = omega (arith, length-take-le i ts (omega arith)) in subst (IsNarrowTable g lists) (sym (get_or-take i ts k t l)) (narrow k t l));
    list = list;
    is_listed = m;
    is_path = e;
    is_wide = wide;
    is_first = p;
  }
