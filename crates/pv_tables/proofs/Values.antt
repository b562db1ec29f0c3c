-- What all light entries of a word give a goal is its weight, and they are closed.
use Rattle.std.specs.Prelude.{false, min, nat_eq, true, Bool, ◌&&◌}
use Rattle.std.proofs.Common.{List, Some, [], ap, arith, inl, inr, length, refl, subst, suc, sym, zero, ℕ, ◌+◌, ◌<◌, ◌∙◌, ◌∷◌, ◌≡◌, ◌≤◌, ◌⊎◌}
use Rattle.std.specs.List.{AllByRecursion, Contains}
use Rattle.std.proofs.lemmas.Bool.{cases_lt, eq-eqb, eqb-true}
use Rattle.std.proofs.lemmas.List.Elements.{All-contains}
use Rattle.std.proofs.lemmas.Option.{slice_get_within}
use Rattle.pv_model.specs.Plain.{PlainModel, PlainToken}
use Rattle.pv_dtd.specs.Plain.{PlainDtd, declared, model_of}
use Rattle.pv_rules.specs.Derivations.{DeriveAll, Derives, IsClosed, IsWeight, by_rule, heaviest, none_left, one_more, sum_of}
use Rattle.pv_rules.specs.Laws.{RulesAreOverSpans}
use Rattle.pv_rules.specs.PlainForms.{plain_site}
use Rattle.pv_rules.specs.Rules.{Goal, IsKnownWord, IsSpan, Rule, any_name, any_none, any_text, children_part, empty_none, kept, missing, mixed_name}
use Rattle.pv_rules.specs.Rules.{mixed_none, mixed_text, opt_none, opt_one, over, part_choice, part_name, part_seq, plus_more, plus_one, rest_last}
use Rattle.pv_rules.specs.Rules.{rest_then, star_more, star_none}
use Rattle.pv_rules.specs.Sites.{HasSite, PlainSite, content_site, name_site, part_site, rest_site}
use Rattle.pv_rules.specs.declared.sites.Site.{Site}
use Rattle.pv_rules.specs.declared.sites.Site.TheVariants as site
use Rattle.pv_tables.specs.Tables.{AreAllEntries, IsEntry, kind_rank, site_number}
use Rattle.pv_tables.specs.Values.{IsListed, IsUnlisted, are_same_goals, are_same_sites, goal_of, listed_value}
use Rattle.pv_tables.specs.declared.tables.Entry.{Entry}

-- a site is told by its kind and number
pub site_same : (a b : PlainSite) → kind_rank a ≡ kind_rank b → site_number a ≡ site_number b → a ≡ b
site_same (content_site x) (content_site y) k q = ap content_site q
site_same (content_site x) (name_site y) k q = absurd (omega arith)
site_same (content_site x) (part_site y) k q = absurd (omega arith)
site_same (content_site x) (rest_site y) k q = absurd (omega arith)
site_same (name_site x) (content_site y) k q = absurd (omega arith)
site_same (name_site x) (name_site y) k q = ap name_site q
site_same (name_site x) (part_site y) k q = absurd (omega arith)
site_same (name_site x) (rest_site y) k q = absurd (omega arith)
site_same (part_site x) (content_site y) k q = absurd (omega arith)
site_same (part_site x) (name_site y) k q = absurd (omega arith)
site_same (part_site x) (part_site y) k q = ap part_site q
site_same (part_site x) (rest_site y) k q = absurd (omega arith)
site_same (rest_site x) (content_site y) k q = absurd (omega arith)
site_same (rest_site x) (name_site y) k q = absurd (omega arith)
site_same (rest_site x) (part_site y) k q = absurd (omega arith)
site_same (rest_site x) (rest_site y) k q = ap rest_site q

goal_same : (a b : PlainSite) (i j k l : ℕ) → a ≡ b → i ≡ k → j ≡ l → over a i j ≡ over b k l
goal_same a b i j k l p q r = cc

both_true : (a b : Bool) → (a && b) ≡ true → (a ≡ true) × (b ≡ true)
both_true true b e = (refl, e)
both_true false b e = absurd cc

pub same_goals : (a b : Goal) → are_same_goals a b ≡ true → a ≡ b
same_goals a b e = goal_same a.site b.site a.from a.to b.from b.to
    (site_same a.site b.site (eqb-true (kind_rank a.site) (kind_rank b.site) sites.0) (eqb-true (site_number a.site) (site_number b.site) sites.1))
    (eqb-true a.from b.from spans.0) (eqb-true a.to b.to spans.1)
  where
    halves : (are_same_sites a.site b.site ≡ true) × ((nat_eq a.from b.from && nat_eq a.to b.to) ≡ true)
    halves = both_true (are_same_sites a.site b.site) (nat_eq a.from b.from && nat_eq a.to b.to) e

    sites : (nat_eq (kind_rank a.site) (kind_rank b.site) ≡ true) × (nat_eq (site_number a.site) (site_number b.site) ≡ true)
    sites = both_true (nat_eq (kind_rank a.site) (kind_rank b.site)) (nat_eq (site_number a.site) (site_number b.site)) halves.0

    spans : (nat_eq a.from b.from ≡ true) × (nat_eq a.to b.to ≡ true)
    spans = both_true (nat_eq a.from b.from) (nat_eq a.to b.to) halves.1

pub itself : (a : Goal) → are_same_goals a a ≡ true
itself a = rw (eq-eqb (kind_rank a.site) (kind_rank a.site) refl, eq-eqb (site_number a.site) (site_number a.site) refl, eq-eqb a.from a.from refl, eq-eqb a.to a.to refl) refl

first_listed : (e : Entry) (es : List Entry) (x : Goal) (b : Bool) → are_same_goals (goal_of e) x ≡ b → IsListed es x ⊎ IsUnlisted es x → IsListed (e ∷ es) x ⊎ IsUnlisted (e ∷ es) x
first_listed e es x true same rest = inl (e, (0, omega arith, refl), same_goals (goal_of e) x same, rw same refl)
first_listed e es x false same (inl (f, (k, lt, h), is, v)) = inl (f, (suc k, omega arith, h), is, rw same v)
first_listed e es x false same (inr (v, none)) = inr (rw same v, λ f m is. none_here f m is)
  where
    none_here : (f : Entry) → Contains (e ∷ es) f → goal_of f ≡ x → ⊥
    none_here f (zero, lt, h) is = let i = itself (goal_of e) in let g : goal_of e ≡ x =
        ap goal_of h ∙ is in let s : are_same_goals (goal_of e) x ≡ true =
        subst (λ y. are_same_goals (goal_of e) y ≡ true) g i in cc
    none_here f (suc k, lt, h) is = none f (k, omega arith, h) is

pub listed_cases : (es : List Entry) (x : Goal) → IsListed es x ⊎ IsUnlisted es x
listed_cases [] x = inr (refl, λ e m is. let lt = m.1 in omega arith)
listed_cases (e ∷ es) x = first_listed e es x (are_same_goals (goal_of e) x) refl (listed_cases es x)

at_least : {k m : ℕ} → (k < m → ⊥) → (k < m) ⊎ (m ≤ k) → m ≤ k
at_least none (inl less) = absurd (none less)
at_least none (inr more) = more

-- where no number is the weight, there is no derivation of less than the cut
none_below : {G : Type 0} (R : G → ℕ → List G → Type 0) (x : G) → ((k : ℕ) → k < heaviest → IsWeight R x k → ⊥) → (n m : ℕ) → m < n → n ≤ heaviest → Derives R m x → ⊥
none_below R x none zero m lt le d = omega arith
none_below R x none (suc n) m lt le d =
    none m (omega arith)
    (record {
      bounded = omega arith;
      least = λ k f. at_least (λ less. none_below R x none n k
          (omega arith) (omega arith) f) (cases_lt k m);
      reached = λ below. d;
    })

abbrev site_with : PlainSite → Site
site_with (content_site x) = site.Content (record { 0 = x })
site_with (name_site x) = site.Name (record { 0 = x })
site_with (part_site q) = site.Part q
site_with (rest_site q) = site.Rest q

plain_again : (s : PlainSite) → plain_site (site_with s) ≡ s
plain_again (content_site x) = refl
plain_again (name_site x) = refl
plain_again (part_site q) = refl
plain_again (rest_site q) = refl

module _ (g : PlainDtd) (w : List PlainToken) (es : List Entry) (are : AreAllEntries g w es) where
  is_entry : (e : Entry) → Contains es e → IsEntry g w e
  is_entry e m = All-contains (IsEntry g w) es e are.are.each m

  bounded_at : (x : Goal) → IsListed es x ⊎ IsUnlisted es x → listed_value es x ≤ heaviest
  bounded_at x (inl (e, m, is, v)) = let l = (is_entry e m).light in omega arith
  bounded_at x (inr (v, none)) = omega arith

  module _ (s : PlainSite) (i j : ℕ) (is_site : HasSite g s) (span : IsSpan w i j) where
    weight_at : IsListed es (over s i j) ⊎ IsUnlisted es (over s i j) → IsWeight (Rule g w) (over s i j) (listed_value es (over s i j))
    weight_at (inl (e, m, is, v)) = let P : ℕ → Type 0 = IsWeight (Rule g w) (over s i j) in
        let Q : Goal → Type 0 = λ y. IsWeight (Rule g w) y e.value in
        subst P (sym v) (subst Q is (is_entry e m).weighs)
    weight_at (inr (v, none)) = record { bounded = omega arith; least = λ n d. far n d (cases_lt n heaviest); reached = λ below. absurd (omega arith) }
      where
        no_weight : (k : ℕ) → k < heaviest → IsWeight (Rule g w) (over s i j) k → ⊥
        no_weight k lt is = none e (are.all e entry) (rw (plain_again s) refl)
          where
            e : Entry
            e = record { site = site_with s; from = i; to = j; value = k }

            entry : IsEntry g w e
            entry = record { is_site = rw (plain_again s) is_site; is_span = span; weighs = rw (plain_again s) is; light = lt }

        far : (n : ℕ) → Derives (Rule g w) n (over s i j) → (n < heaviest) ⊎ (heaviest ≤ n) → listed_value es (over s i j) ≤ n
        far n d (inl less) = absurd (none_below (Rule g w) (over s i j) no_weight heaviest n less (omega arith) d)
        far n d (inr more) = omega arith

    pub entry_weighs : IsWeight (Rule g w) (over s i j) (listed_value es (over s i j))
    entry_weighs = weight_at (listed_cases es (over s i j))

  -- goals whose values aren't past the cut are of sites of the DTD, and derive these values
  one_reached : (x : Goal) → listed_value es x < heaviest → IsListed es x ⊎ IsUnlisted es x → Derives (Rule g w) (listed_value es x) x × HasSite g x.site
  one_reached x lt (inl (e, m, is, v)) = (
    subst (λ k. Derives (Rule g w) k x) (sym v) (subst (λ y. Derives (Rule g w) e.value y) is
        ((is_entry e m).weighs.reached (is_entry e m).light)),
    subst (λ (y : Goal). HasSite g y.site)
        is (is_entry e m).is_site,
  )
  one_reached x lt (inr (v, none)) = absurd (omega arith)

  all_reached : (xs : List Goal) → sum_of (listed_value es) xs < heaviest → DeriveAll (Rule g w) (sum_of (listed_value es) xs) xs × AllByRecursion (λ x. HasSite g x.site) xs
  all_reached [] lt = (none_left 0 refl, tt)
  all_reached (x ∷ xs) lt = let one = one_reached x (omega arith) (listed_cases es x) in let more = all_reached xs (omega arith) in
      (one_more (sum_of (listed_value es) (x ∷ xs)) (listed_value es x) (sum_of (listed_value es) xs) x xs refl one.0 more.0, (one.1, more.1))

  module _ (few : declared g ≤ length g.names) (known : IsKnownWord g w) (spans : RulesAreOverSpans g w) where
    has_content : (x : ℕ) (m : PlainModel) → model_of g x ≡ Some m → x < length g.names
    has_content x m e = let l = slice_get_within g.models x m e in omega arith

    -- where all right sides of a rule are sites of the DTD, so is the left side
    site_of_rule : (x : Goal) (c : ℕ) (xs : List Goal) → Rule g w x c xs → AllByRecursion (λ y. HasSite g y.site) xs → HasSite g x.site
    site_of_rule _ _ _ (kept x i e) h = known i x e
    site_of_rule _ _ _ (missing x i j s) h = h.0
    site_of_rule _ _ _ (empty_none x i l e) h = has_content x _ e
    site_of_rule _ _ _ (mixed_none x i ys l e) h = has_content x _ e
    site_of_rule _ _ _ (mixed_text x i j ys l m e t) h = has_content x _ e
    site_of_rule _ _ _ (mixed_name x n i k j ys l m o e b) h = has_content x _ e
    site_of_rule _ _ _ (any_none x i l e) h = has_content x _ e
    site_of_rule _ _ _ (any_text x i j l m e t) h = has_content x _ e
    site_of_rule _ _ _ (any_name x y i k j l m o e d) h = has_content x _ e
    site_of_rule _ _ _ (children_part x i j p s e) h = has_content x _ e
    site_of_rule _ _ _ (part_name q y i j s e) h = rw e refl
    site_of_rule _ _ _ (part_seq q i j p ps s e) h = rw e refl
    site_of_rule _ _ _ (part_choice q r i j p ps s e m) h = rw e refl
    site_of_rule _ _ _ (opt_none q i p l e) h = rw e refl
    site_of_rule _ _ _ (opt_one q i j p s e) h = rw e refl
    site_of_rule _ _ _ (star_none q i p l e) h = rw e refl
    site_of_rule _ _ _ (star_more q i k j p l m o e) h = rw e refl
    site_of_rule _ _ _ (plus_one q i j p s e) h = rw e refl
    site_of_rule _ _ _ (plus_more q i k j p l m o e) h = rw e refl
    site_of_rule _ _ _ (rest_last q i j p s e) h = rw e refl
    site_of_rule _ _ _ (rest_then q i k j p r ps l m o e) h = rw e refl

    closed_at : (x : Goal) (c : ℕ) (xs : List Goal) → Rule g w x c xs →
        (c + sum_of (listed_value es) xs < heaviest)
        ⊎ (heaviest ≤ c + sum_of (listed_value es) xs) →
        listed_value es x ≤ min heaviest (c + sum_of (listed_value es) xs)
    closed_at x c xs r (inl less) =
        let all = all_reached xs (omega arith) in
        let is_site = site_of_rule x c xs r all.1 in
        let span = (spans x.site x.from x.to c xs r).0 in
        let least = (entry_weighs x.site x.from x.to is_site span).least
        (c + sum_of (listed_value es) xs) (by_rule (c + sum_of (listed_value es) xs) c
        (sum_of (listed_value es) xs) x xs refl r all.0) in
        omega arith
    closed_at x c xs r (inr more) = let b = bounded_at x (listed_cases es x) in omega arith

    pub entries_closed : IsClosed (Rule g w) (listed_value es)
    entries_closed x c xs r = closed_at x c xs r (cases_lt (c + sum_of (listed_value es) xs) heaviest)
