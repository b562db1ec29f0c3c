-- The forms of rules, over the entries that a table lists.
use Rattle.std.proofs.Common.{◌≡◌, ◌<◌, ◌≤◌, ◌+◌, ◌⊎◌, ◌↔◌, Bool, true, false, ℕ, List, Some, refl, inl, inr, suc, sym, ◌∙◌, ap, subst, min, length, slice_get, get_or, arith}
use Rattle.std.specs.List.{AllPairs, Contains}
use Rattle.std.proofs.lemmas.List.Elements.{All-contains, All-from_get_or}
use Rattle.std.proofs.lemmas.List.{get_or_default}
use Rattle.pv_rules.specs.Derivations.{heaviest}
use Rattle.pv_rules.specs.PlainForms.{plain_site}
use Rattle.pv_rules.specs.Rules.{Goal, over}
use Rattle.pv_model.specs.Plain.{PlainToken, text}
use Rattle.pv_rules.specs.Sites.{PlainSite, content_site}
use Rattle.pv_rules.specs.declared.sites.Site.TheVariants as site
use Rattle.pv_tables.specs.TableLaws.{ListedOrNot}
use Rattle.pv_tables.specs.Tables.{Precedes}
use Rattle.pv_tables.specs.Values.{IsListed, IsUnlisted, listed_value}
use Rattle.pv_tables.specs.declared.tables.Entry.{Entry}
use Rattle.pv_table_check.specs.ClosedForms.{WeighsAsBehindText, WeighsAsOne, WeighsAsTwo, WeighsBehind}
use Rattle.pv_table_check.specs.Lookup.{AreAscendingEntries, AreLike, IsLike}
use Rattle.pv_table_check.proofs.EntryOrder.{absent_value, own_value}

-- the entry that stands for what is after the end of a list
abbrev pub no_entry : Entry
no_entry = record { site = site.Name (record { 0 = 0 }); from = 0; to = 0; value = 0 }

pub item_contained : {X : Type 0} (xs : List X) (k : ℕ) (d : X) → k < length xs → Contains xs (get_or xs k d)
item_contained xs k d l = (k, l, get_or_default xs k (get_or xs k d) d l)

-- what holds of each item of a list by its place
pub by_items : {X : Type 0} (P : X → Type 0) (xs : List X) → ((k : ℕ) (d : X) → k < length xs → P (get_or xs k d)) → (x : X) → Contains xs x → P x
by_items P xs h x (k, l, e) = subst P e (h k x l)

pub light_value : ListedOrNot → (es : List Entry) → AreAscendingEntries es → (x : Goal) → listed_value es x ≤ heaviest
light_value cases es o x = by_case (cases es x)
  where
    by_case : IsListed es x ⊎ IsUnlisted es x → listed_value es x ≤ heaviest
    by_case (inl (e, m, g, v)) = let l = All-contains (λ (f : Entry). f.value < heaviest) es e o.light m in omega arith
    by_case (inr (v, none)) = omega arith

-- the entries of a site, or those of them that begin at a place, give it the values that all give it
pub same_value_by : ListedOrNot → (es : List Entry) → AllPairs Precedes es →
    (anywhere : Bool) (probe : Entry) (found : List Entry) → AreLike es anywhere probe found →
    AllPairs Precedes found → (i j : ℕ) → (anywhere ≡ false → i ≡ probe.from) →
    listed_value found (over (plain_site probe.site) i j) ≡ listed_value es (over (plain_site probe.site) i j)
same_value_by cases es q anywhere probe found a p i j from = by_case (cases es (over (plain_site probe.site) i j))
  where
    by_case : IsListed es (over (plain_site probe.site) i j)
        ⊎ IsUnlisted es (over (plain_site probe.site) i j) →
        listed_value found (over (plain_site probe.site) i j) ≡ listed_value es
        (over (plain_site probe.site) i j)
    by_case (inl (e, m, g, v)) =
        let here = a.all e m (record { same_site = ap (λ (x : Goal). x.site) g; same_from = λ f. ap (λ (x : Goal). x.from) g ∙ from f }) in
        let own = own_value found p cases e here in
        ap (λ (x : Goal). listed_value found x) (sym g) ∙ own ∙ sym v
    by_case (inr (v, none)) = absent_value cases found (over (plain_site probe.site) i j) (λ e m g. none e (a.like e m).0 g) ∙ sym v

module _ (cases : ListedOrNot) (es : List Entry) (o : AreAscendingEntries es) where
  pub is_light : (x : Goal) → listed_value es x ≤ heaviest
  is_light x = light_value cases es o x

  -- an entry has the value of its site over its span
  pub like_value : (anywhere : Bool) (probe e : Entry) → Contains es e → IsLike anywhere probe e → listed_value es (over (plain_site probe.site) e.from e.to) ≡ e.value
  like_value anywhere probe e m l = subst (λ (s : PlainSite). listed_value es (over s e.from e.to) ≡ e.value) l.same_site (own_value es o.ascend cases e m)

  -- the entries of a site, or those of them that begin at a place, give it the values that all give it
  module _ (anywhere : Bool) (probe : Entry) (found : List Entry) (a : AreLike es anywhere probe found) (p : AllPairs Precedes found) where
    pub own_order : AreAscendingEntries found
    own_order = record {
      ascend = p;
      light = All-from_get_or (λ (e : Entry). e.value < heaviest) found no_entry
          (λ k l. All-contains (λ (e : Entry). e.value < heaviest) es (get_or found k no_entry) o.light (a.like (get_or found k no_entry) (item_contained found k no_entry l)).0);
    }

    pub same_value : (i j : ℕ) → (anywhere ≡ false → i ≡ probe.from) → listed_value found (over (plain_site probe.site) i j) ≡ listed_value es (over (plain_site probe.site) i j)
    same_value i j from = same_value_by cases es o.ascend anywhere probe found a p i j from

  -- what is listed of a site is among its entries, and what isn't is past the cut
  pub site_cases : (probe : Entry) (found : List Entry) → AreLike es true probe found → (i j : ℕ) →
      ((e : Entry) × Contains found e × (e.from ≡ i) × (e.to ≡ j) × (listed_value es (over (plain_site probe.site) i j) ≡ e.value)) ⊎ (listed_value es (over (plain_site probe.site) i j) ≡ heaviest)
  site_cases probe found a i j = by_case (cases es (over (plain_site probe.site) i j))
    where
      by_case : IsListed es (over (plain_site probe.site) i j) ⊎ IsUnlisted es (over (plain_site probe.site) i j) →
          ((e : Entry) × Contains found e × (e.from ≡ i) × (e.to ≡ j)
          × (listed_value es (over (plain_site probe.site) i j) ≡ e.value))
          ⊎ (listed_value es (over (plain_site probe.site) i j) ≡ heaviest)
      by_case (inl (e, m, g, v)) = inl (e, a.all e m (record { same_site = ap (λ (x : Goal). x.site) g; same_from = λ f. absurd cc }), ap (λ (x : Goal). x.from) g, ap (λ (x : Goal). x.to) g, v)
      by_case (inr (v, none)) = inr v

  pub start_cases : (probe : Entry) (found : List Entry) → AreLike es false probe found → (j : ℕ) →
      ((e : Entry) × Contains found e × (e.to ≡ j) × (listed_value es (over (plain_site probe.site) probe.from j) ≡ e.value)) ⊎ (listed_value es (over (plain_site probe.site) probe.from j) ≡ heaviest)
  start_cases probe found a j = by_case (cases es (over (plain_site probe.site) probe.from j))
    where
      by_case : IsListed es (over (plain_site probe.site) probe.from j) ⊎ IsUnlisted es (over (plain_site probe.site) probe.from j) →
          ((e : Entry) × Contains found e × (e.to ≡ j)
          × (listed_value es (over (plain_site probe.site) probe.from j) ≡ e.value))
          ⊎ (listed_value es (over (plain_site probe.site) probe.from j) ≡ heaviest)
      by_case (inl (e, m, g, v)) = inl (e, a.all e m (record { same_site = ap (λ (x : Goal). x.site) g; same_from = λ f. ap (λ (x : Goal). x.from) g }), ap (λ (x : Goal). x.to) g, v)
      by_case (inr (v, none)) = inr v

  -- ---- one site
  module _ (left : PlainSite) (probe : Entry) (cost : ℕ) (found : List Entry) (a : AreLike es true probe found) where
    abbrev pub IsWithin : Entry → Type 0
    IsWithin e = listed_value es (over left e.from e.to) ≤ cost + e.value

    pub all_one : ((k : ℕ) (d : Entry) → k < length found → IsWithin (get_or found k d)) → WeighsAsOne es left (plain_site probe.site) cost
    all_one h i j = by_case (site_cases probe found a i j)
      where
        by_case : ((e : Entry) × Contains found e × (e.from ≡ i) × (e.to ≡ j)
            × (listed_value es (over (plain_site probe.site) i j) ≡ e.value))
            ⊎ (listed_value es (over (plain_site probe.site) i j) ≡ heaviest) →
            listed_value es (over left i j) ≤ min heaviest (cost + listed_value es (over (plain_site probe.site) i j))
        by_case (inl (e, m, f, t, v)) =
            let w = by_items IsWithin found h e m in
            let x : listed_value es (over left i j) ≤ cost + e.value =
            subst (λ k. listed_value es (over left k j) ≤ cost + e.value) f
            (subst (λ k. listed_value es (over left e.from k) ≤ cost + e.value) t w) in
            let y = is_light (over left i j) in omega arith
        by_case (inr v) = let y = is_light (over left i j) in omega arith

    pub one_within : WeighsAsOne es left (plain_site probe.site) cost → (e : Entry) → Contains found e → IsWithin e
    one_within h e m = let l = a.like e m in let v = like_value true probe e l.0 l.1 in let x = h e.from e.to in omega arith

  -- ---- a second site after an entry, by the entries of the first site
  module _ (ls : List Entry) (lo : AreAscendingEntries ls) (left : PlainSite) (one : Entry)
      (inner : Bool) (probe : Entry) (from : probe.from ≡ one.to) (found : List Entry)
      (a : AreLike es false probe found) where
    abbrev pub IsWithinBoth : Entry → Type 0
    IsWithinBoth e = (inner ≡ true → one.to < e.to) → listed_value ls (over left one.from e.to) ≤ one.value + e.value

    abbrev Behind : Type 0
    Behind = WeighsBehind ls es left one.from one.to one.value (plain_site probe.site) inner

    pub all_behind : ((k : ℕ) (d : Entry) → k < length found → IsWithinBoth (get_or found k d)) → Behind
    all_behind h j more = by_case (start_cases probe found a j)
      where
        by_case : ((e : Entry) × Contains found e × (e.to ≡ j)
            × (listed_value es (over (plain_site probe.site) probe.from j) ≡ e.value))
            ⊎ (listed_value es (over (plain_site probe.site) probe.from j) ≡ heaviest) →
            listed_value ls (over left one.from j) ≤ min heaviest (one.value + listed_value es (over (plain_site probe.site) one.to j))
        by_case (inl (e, m, t, v)) =
            let w = by_items IsWithinBoth found h e m in
            let x : listed_value ls (over left one.from j) ≤ one.value + e.value =
            subst (λ k. listed_value ls (over left one.from k) ≤ one.value + e.value) t
            (w (λ i. let l = more i in omega arith)) in
            let z : listed_value es (over (plain_site probe.site) one.to j) ≡ e.value = subst (λ k. listed_value es (over (plain_site probe.site) k j) ≡ e.value) from v in
            let y = light_value cases ls lo (over left one.from j) in omega arith
        by_case (inr v) =
            let z : listed_value es (over (plain_site probe.site) one.to j) ≡ heaviest = subst (λ k. listed_value es (over (plain_site probe.site) k j) ≡ heaviest) from v in
            let y = light_value cases ls lo (over left one.from j) in omega arith

    pub behind_within : Behind → (e : Entry) → Contains found e → IsWithinBoth e
    behind_within h e m more =
        let l = a.like e m in
        let f : e.from ≡ one.to = l.1.same_from refl ∙ from in
        let v = like_value false probe e l.0 l.1 in
        let z : listed_value es (over (plain_site probe.site) one.to e.to) ≡ e.value = subst (λ k. listed_value es (over (plain_site probe.site) k e.to) ≡ e.value) f v in
        let x = h e.to more in omega arith

  -- ---- two sites
  module _ (left second : PlainSite) (outer inner : Bool) (probe : Entry) (found : List Entry) (a : AreLike es true probe found) where
    abbrev pub IsFirstWithin : Entry → Type 0
    IsFirstWithin e = (outer ≡ true → e.from < e.to) → WeighsBehind es es left e.from e.to e.value second inner

    pub all_two : ((k : ℕ) (d : Entry) → k < length found → IsFirstWithin (get_or found k d)) → WeighsAsTwo es left (plain_site probe.site) second outer inner
    all_two h i k j more behind = by_case (site_cases probe found a i k)
      where
        by_case : ((e : Entry) × Contains found e × (e.from ≡ i) × (e.to ≡ k)
            × (listed_value es (over (plain_site probe.site) i k) ≡ e.value))
            ⊎ (listed_value es (over (plain_site probe.site) i k) ≡ heaviest) →
            listed_value es (over left i j) ≤ min heaviest (listed_value es (over (plain_site probe.site) i k) + listed_value es (over second k j))
        by_case (inl (e, m, f, t, v)) =
            let w = by_items IsFirstWithin found h e m (λ o. let l = more o in omega arith) j (λ n. let l = behind n in omega arith) in
            let x = subst (λ n. listed_value es (over left n j) ≤ min heaviest
            (e.value + listed_value es (over second k j))) f
            (subst (λ n. listed_value es (over left e.from j) ≤ min heaviest
            (e.value + listed_value es (over second n j))) t w) in
            subst (λ n. listed_value es (over left i j) ≤ min heaviest (n + listed_value es (over second k j))) (sym v) x
        by_case (inr v) = let y = is_light (over left i j) in omega arith

    pub two_within : WeighsAsTwo es left (plain_site probe.site) second outer inner → (e : Entry) → Contains found e → IsFirstWithin e
    two_within h e m more j behind =
        let l = a.like e m in
        let v = like_value true probe e l.0 l.1 in
        subst (λ n. listed_value es (over left e.from j) ≤ min heaviest (n + listed_value es (over second e.to j))) v (h e.from e.to j more behind)

  -- ---- content after a text
  module _ (w : List PlainToken) (x : ℕ) (probe : Entry) (site : plain_site probe.site ≡ content_site x) (found : List Entry) (a : AreLike es true probe found) where
    abbrev pub IsWithinText : Entry → Type 0
    IsWithinText e = (i : ℕ) → suc i ≡ e.from → slice_get w i ≡ Some text → listed_value es (over (content_site x) i e.to) ≤ e.value

    pub all_text : ((k : ℕ) (d : Entry) → k < length found → IsWithinText (get_or found k d)) → WeighsAsBehindText es w x
    all_text h i j at = by_case (subst (λ s. ((e : Entry) × Contains found e × (e.from ≡ suc i)
        × (e.to ≡ j) × (listed_value es (over s (suc i) j) ≡ e.value))
        ⊎ (listed_value es (over s (suc i) j) ≡ heaviest)) site (site_cases probe found a (suc i) j))
      where
        by_case : ((e : Entry) × Contains found e × (e.from ≡ suc i) × (e.to ≡ j)
            × (listed_value es (over (content_site x) (suc i) j) ≡ e.value))
            ⊎ (listed_value es (over (content_site x) (suc i) j) ≡ heaviest) →
            listed_value es (over (content_site x) i j) ≤ min heaviest (listed_value es (over (content_site x) (suc i) j))
        by_case (inl (e, m, f, t, v)) =
            let b = by_items IsWithinText found h e m i (sym f) at in
            let c : listed_value es (over (content_site x) i j) ≤ e.value = subst (λ k. listed_value es (over (content_site x) i k) ≤ e.value) t b in
            let y = is_light (over (content_site x) i j) in omega arith
        by_case (inr v) = let y = is_light (over (content_site x) i j) in omega arith

    pub text_within : WeighsAsBehindText es w x → (e : Entry) → Contains found e → IsWithinText e
    text_within h e m i f at =
        let l = a.like e m in
        let v = subst (λ s. listed_value es (over s e.from e.to) ≡ e.value) site (like_value true probe e l.0 l.1) in
        let z : listed_value es (over (content_site x) (suc i) e.to) ≡ e.value = subst (λ k. listed_value es (over (content_site x) k e.to) ≡ e.value) (sym f) v in
        let b = h i e.to at in omega arith

-- what is after an entry is so by the entries of the two sites, where these give the values that all give
pub behind_as : (ls ss es : List Entry) (left second : PlainSite) → ((i j : ℕ) → listed_value ls (over left i j) ≡ listed_value es (over left i j)) →
    ((i j : ℕ) → listed_value ss (over second i j) ≡ listed_value es (over second i j)) → (i k v : ℕ) (inner : Bool) →
    WeighsBehind ls ss left i k v second inner ↔ WeighsBehind es es left i k v second inner
behind_as ls ss es left second p q i k v inner = (
  λ h j more. let a = p i j in let b = q k j in let x = h j more in omega arith,
  λ h j more. let a = p i j in let b = q k j in let x = h j more in omega arith,
)
