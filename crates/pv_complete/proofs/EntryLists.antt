-- Entries listed one after another: a step, and from one key to the next.
use Rattle.std.proofs.Common.{List, [], arith, get_or, inl, inr, refl, suc, sym, ℕ, ◌++◌, ◌<◌, ◌∷◌, ◌≡◌, ◌≤◌, ◌⊎◌}
use Rattle.std.proofs.lemmas.List.Elements.{All-nil, All-push, Contains-append_left, Contains-push}
use Rattle.std.proofs.lemmas.List.Quantifiers.{all_pairs_push}
use Rattle.std.specs.List.{All, AllPairs, Contains}
use Rattle.pv_dtd.specs.Plain.{PlainDtd}
use Rattle.pv_rules.specs.Derivations.{heaviest}
use Rattle.pv_rules.specs.PlainForms.{plain_site}
use Rattle.pv_rules.specs.Rules.{Goal, over}
use Rattle.pv_rules.specs.Sites.{HasSite, PlainSite}
use Rattle.pv_rules.specs.declared.sites.Site.{Site}
use Rattle.pv_tables.specs.declared.tables.Entry.{Entry}
use Rattle.pv_complete.specs.Listings.{IsLight, IsListedTo, key}
use Rattle.pv_tables.specs.Tables.{IsBefore, Precedes, key_of, kind_rank, site_number}
use Rattle.pv_complete.proofs.Keys.{before_cases, before_here, before_next, before_none, entry, entry_is, kind_back, kind_done, number_back, place_back, place_done, site_back, site_done, site_is}

module _ (g : PlainDtd) (n : ℕ) (t : Goal → ℕ) where
  pub listed_none : IsListedTo g n t (key 0 0 0 0) []
  listed_none = record {
    each = All-nil (IsLight g n t);
    before = All-nil (λ (e : Entry). IsBefore (key_of e) (key 0 0 0 0));
    ascend = λ i j d lt below. absurd (omega arith);
    all = λ e light before. absurd (before_none (kind_rank (plain_site e.site)) (site_number (plain_site e.site)) e.from e.to before);
  }

  -- entries listed to one key are listed to another, if no entry stands between the two
  listed_moved : (A B : List ℕ) (es : List Entry) → ((e : Entry) → IsLight g n t e → IsBefore (key_of e) A → IsBefore (key_of e) B) →
      ((e : Entry) → IsLight g n t e → IsBefore (key_of e) B → IsBefore (key_of e) A) → IsListedTo g n t A es → IsListedTo g n t B es
  listed_moved A B es f h l = record {
    each = l.each;
    before = λ k d lt. f (get_or es k d) (l.each k d lt) (l.before k d lt);
    ascend = l.ascend;
    all = λ e light before. l.all e light (h e light before);
  }

  pub listed_place : (k q i : ℕ) (es : List Entry) → IsListedTo g n t (key k q i (suc n)) es → IsListedTo g n t (key k q (suc i) (suc i)) es
  listed_place k q i es = listed_moved (key k q i (suc n)) (key k q (suc i) (suc i)) es
      (λ e light. place_done (kind_rank (plain_site e.site)) (site_number (plain_site e.site)) e.from e.to k q i n)
      (λ e light. place_back (kind_rank (plain_site e.site)) (site_number (plain_site e.site)) e.from e.to k q i n light.begins light.ends)

  pub listed_site : (k q : ℕ) (es : List Entry) → IsListedTo g n t (key k q (suc n) (suc n)) es → IsListedTo g n t (key k (suc q) 0 0) es
  listed_site k q es = listed_moved (key k q (suc n) (suc n)) (key k (suc q) 0 0) es
      (λ e light. site_done (kind_rank (plain_site e.site)) (site_number (plain_site e.site)) e.from e.to k q (suc n) (suc n))
      (λ e light. site_back (kind_rank (plain_site e.site)) (site_number (plain_site e.site)) e.from e.to k q n light.begins light.ends)

  pub listed_number : (k q : ℕ) (es : List Entry) → ((s : PlainSite) → kind_rank s ≡ k → site_number s ≡ q → HasSite g s → ⊥) →
      IsListedTo g n t (key k q 0 0) es → IsListedTo g n t (key k (suc q) 0 0) es
  listed_number k q es none = listed_moved (key k q 0 0) (key k (suc q) 0 0) es
      (λ e light. site_done (kind_rank (plain_site e.site)) (site_number (plain_site e.site)) e.from e.to k q 0 0)
      (λ e light. number_back (kind_rank (plain_site e.site)) (site_number (plain_site e.site)) e.from e.to k q (λ x y. none (plain_site e.site) x y light.is_site))

  pub listed_kind : (k m : ℕ) (es : List Entry) → ((s : PlainSite) → kind_rank s ≡ k → m ≤ site_number s → HasSite g s → ⊥) →
      IsListedTo g n t (key k m 0 0) es → IsListedTo g n t (key (suc k) 0 0 0) es
  listed_kind k m es none = listed_moved (key k m 0 0) (key (suc k) 0 0 0) es
      (λ e light. kind_done (kind_rank (plain_site e.site)) (site_number (plain_site e.site)) e.from e.to k m)
      (λ e light. kind_back (kind_rank (plain_site e.site)) (site_number (plain_site e.site)) e.from e.to k m (λ x y. none (plain_site e.site) x y light.is_site))

  module _ (s : Site) (i j : ℕ) (es : List Entry) (l : IsListedTo g n t (key (kind_rank (plain_site s)) (site_number (plain_site s)) i j) es) where
    -- a light entry at this key
    here_is : (e : Entry) → IsLight g n t e → (kind_rank (plain_site e.site) ≡ kind_rank (plain_site s)) × (site_number (plain_site e.site) ≡ site_number (plain_site s)) × (e.from ≡ i) × (e.to ≡ j) →
        entry s i j (t (over (plain_site s) i j)) ≡ e
    here_is e light (a, b, c, d) = entry_is s e.site i j (t (over (plain_site s) i j)) e.from e.to e.value (sym same) (sym c) (sym d) (sym value)
      where
        same : e.site ≡ s
        same = site_is e.site s a b

        value : e.value ≡ t (over (plain_site s) i j)
        value = let w = light.weighs in rw (same, c, d) at w

    here_before : (e : Entry) → IsBefore (key_of e) (key (kind_rank (plain_site s))
        (site_number (plain_site s)) i j) → IsBefore (key_of e) (key (kind_rank (plain_site s))
        (site_number (plain_site s)) i (suc j))
    here_before e = before_next (kind_rank (plain_site e.site)) (site_number (plain_site e.site)) e.from e.to (kind_rank (plain_site s)) (site_number (plain_site s)) i j

    here_cases : (e : Entry) → IsBefore (key_of e) (key (kind_rank (plain_site s)) (site_number (plain_site s)) i (suc j)) →
        IsBefore (key_of e) (key (kind_rank (plain_site s)) (site_number (plain_site s)) i j) ⊎
        ((kind_rank (plain_site e.site) ≡ kind_rank (plain_site s)) × (site_number (plain_site e.site) ≡ site_number (plain_site s)) × (e.from ≡ i) × (e.to ≡ j))
    here_cases e = before_cases (kind_rank (plain_site e.site)) (site_number (plain_site e.site)) e.from e.to (kind_rank (plain_site s)) (site_number (plain_site s)) i j

    pub light_here : HasSite g (plain_site s) → i ≤ j → j ≤ n → t (over (plain_site s) i j) < heaviest → IsLight g n t (entry s i j (t (over (plain_site s) i j)))
    light_here is_site b e lt = record { is_site = is_site; begins = b; ends = e; weighs = refl; light = lt }

    pub pushed_each : HasSite g (plain_site s) → i ≤ j → j ≤ n → t (over (plain_site s) i j) < heaviest → All (IsLight g n t) (es ++ entry s i j (t (over (plain_site s) i j)) ∷ [])
    pushed_each is_site b e lt = All-push (IsLight g n t) es (entry s i j (t (over (plain_site s) i j))) l.each (light_here is_site b e lt)

    pub pushed_ascend : AllPairs Precedes (es ++ entry s i j (t (over (plain_site s) i j)) ∷ [])
    pushed_ascend = all_pairs_push Precedes es (entry s i j (t (over (plain_site s) i j))) l.ascend l.before

    -- the entry here is listed
    pub listed_light : HasSite g (plain_site s) → i ≤ j → j ≤ n → t (over (plain_site s) i j) < heaviest →
        IsListedTo g n t (key (kind_rank (plain_site s)) (site_number (plain_site s)) i (suc j)) (es ++ entry s i j (t (over (plain_site s) i j)) ∷ [])
    listed_light is_site b e lt = record {
      each = pushed_each is_site b e lt;
      before = All-push (λ (x : Entry). IsBefore (key_of x) (key (kind_rank (plain_site s)) (site_number (plain_site s)) i (suc j))) es (entry s i j (t (over (plain_site s) i j)))
          (λ k d below. here_before (get_or es k d) (l.before k d below)) (before_here (kind_rank (plain_site s)) (site_number (plain_site s)) i j);
      ascend = pushed_ascend;
      all = λ x light before. at_key x light (here_cases x before);
    }
      where
        at_key : (x : Entry) → IsLight g n t x → IsBefore (key_of x) (key (kind_rank (plain_site s)) (site_number (plain_site s)) i j) ⊎
            ((kind_rank (plain_site x.site) ≡ kind_rank (plain_site s)) × (site_number (plain_site x.site) ≡ site_number (plain_site s)) × (x.from ≡ i) × (x.to ≡ j)) →
            Contains (es ++ entry s i j (t (over (plain_site s) i j)) ∷ []) x
        at_key x light (inl y) = Contains-append_left es (entry s i j (t (over (plain_site s) i j)) ∷ []) x (l.all x light y)
        at_key x light (inr y) = rw (← here_is x light y) (Contains-push es (entry s i j (t (over (plain_site s) i j))))

    -- nothing light is here
    pub listed_heavy : heaviest ≤ t (over (plain_site s) i j) → IsListedTo g n t (key (kind_rank (plain_site s)) (site_number (plain_site s)) i (suc j)) es
    listed_heavy heavy = record {
      each = l.each;
      before = λ k d below. here_before (get_or es k d) (l.before k d below);
      ascend = l.ascend;
      all = λ x light before. at_key x light (here_cases x before);
    }
      where
        at_key : (x : Entry) → IsLight g n t x → IsBefore (key_of x) (key (kind_rank (plain_site s)) (site_number (plain_site s)) i j) ⊎
            ((kind_rank (plain_site x.site) ≡ kind_rank (plain_site s)) × (site_number (plain_site x.site) ≡ site_number (plain_site s)) × (x.from ≡ i) × (x.to ≡ j)) →
            Contains es x
        at_key x light (inl y) = l.all x light y
        at_key x light (inr (a, b, c, d)) = absurd (let w = light.weighs in let z = light.light in let e = site_is x.site s a b in let v = rw (e, c, d) at w in omega arith)
