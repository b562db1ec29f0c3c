-- What is left of a total when the values of some tables are taken from it.
use Rattle.std.proofs.Common.{List, Some, arith, drop, drop-cons, get_or, length, refl, subst, suc, sym, ℕ, ◌+◌, ◌<◌, ◌∙◌, ◌∷◌, ◌≡◌, ◌≤◌}
use Rattle.std.proofs.lemmas.List.{drop_all}
use Rattle.pv_dtd.specs.Plain.{PlainDtd}
use Rattle.pv_rules.specs.Sites.{PlainSite}
use Rattle.pv_tree.specs.Laws.{ListsStandAtPaths}
use Rattle.pv_tree.specs.Lists.{Listed, lists_of}
use Rattle.pv_tree.specs.Plain.{PlainDoc}
use Rattle.pv_tree.specs.Words.{word_of}
use Rattle.pv_missing.specs.ListWeights.{site_of, whole}
use Rattle.pv_tables.specs.Values.{HasWholeValue, HaveTotal, listed_value}
use Rattle.pv_tables.specs.declared.tables.Table.{Table}
use Rattle.pv_table_check.proofs.ListPlaces.{same_list}

module _ {M : Type 0} (g : PlainDtd) (root : List ℕ) (doc : PlainDoc M) where
  abbrev Has : Table → ℕ → Type 0
  Has t k = HasWholeValue g root (lists_of doc) t k

  abbrev Total : List Table → ℕ → Type 0
  Total ts s = HaveTotal g root (lists_of doc) ts s

  value_same : (t : Table) (l m : Listed M) (r s : PlainSite) → l ≡ m → r ≡ s → listed_value t.entries (whole r (word_of g l.kids)) ≡ listed_value t.entries (whole s (word_of g m.kids))
  value_same t l m r s e f = rw (e, f) refl

  module _ (law : ListsStandAtPaths M) where
    -- a table has one whole-list value
    pub same_value : (t : Table) (a b : ℕ) → Has t a → Has t b → a ≡ b
    same_value t a b x y =
        let same : x.list ≡ y.list = same_list doc.root x.list y.list ((law doc x.list).0 x.is_listed) ((law doc y.list).0 y.is_listed) (sym x.is_path ∙ y.is_path) in
        let site : site_of g root y.list.owner ≡ Some x.site = subst (λ (l : Listed M). site_of g root l.owner ≡ Some x.site) same x.is_site in
        let also = y.is_site in
        x.is_value ∙ value_same t x.list y.list x.site y.site same (cc) ∙ sym y.is_value

  module _ (ts : List Table) (total : ℕ) where
    -- the tables add up to the total where those from this place on add up to what is left
    pub record IsLeft (i left : ℕ) : Type 0 where
      pub to : Total (drop i ts) left → Total ts total
      pub from : Total ts total → Total (drop i ts) left

    pub left_all : IsLeft 0 total
    left_all = record { to = λ h. h; from = λ h. h }

    module _ (i left : ℕ) (l : IsLeft i left) where
      pub none_left : length ts ≤ i → (left ≡ 0 → Total ts total) × (Total ts total → left ≡ 0)
      none_left le = (λ e. l.to (rw (drop_all i ts le) e), λ h. rw (drop_all i ts le) at (l.from h))

      module _ (few : i < length ts) (d : Table) where
        split : drop i ts ≡ get_or ts i d ∷ drop (suc i) ts
        split = drop-cons ts i d few

        first : Total ts total → (a : ℕ) × (b : ℕ) × (left ≡ a + b) × Has (get_or ts i d) a × Total (drop (suc i) ts) b
        first h = rw split at (l.from h)

        pub no_value : ((k : ℕ) → Has (get_or ts i d) k → ⊥) → Total ts total → ⊥
        no_value none h = let f = first h in none f.0 f.3

        module _ (law : ListsStandAtPaths M) (v : ℕ) (has : Has (get_or ts i d) v) where
          pub too_little : left < v → Total ts total → ⊥
          too_little lt h = let f = first h in let e = same_value law (get_or ts i d) f.0 v f.3 has in let s = f.2 in omega arith

          pub one_more : (less : ℕ) → left ≡ v + less → IsLeft (i + 1) less
          one_more less e = record {
            to = λ h. l.to (rw split (v, less, e, has, rw next at h));
            from = λ h. let f = first h in let s = same_value law (get_or ts i d) f.0 v f.3 has in let k = f.2 in
                let same : f.1 ≡ less = omega arith in rw next (subst (λ n. Total (drop (suc i) ts) n) same f.4);
          }
            where
              next : i + 1 ≡ suc i
              next = omega arith
