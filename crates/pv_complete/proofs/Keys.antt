-- Keys of entries in their order, and what a key tells of an entry.
use Rattle.std.proofs.Common.{ap, arith, inl, inr, refl, suc, ℕ, ◌<◌, ◌≡◌, ◌≤◌, ◌⊎◌}
use Rattle.std.proofs.lemmas.Bool.{cases_lt}
use Rattle.pv_rules.specs.PlainForms.{plain_site}
use Rattle.pv_rules.specs.declared.sites.Site.{Site}
use Rattle.pv_rules.specs.declared.sites.Site.TheVariants as site
use Rattle.pv_tables.specs.declared.tables.Entry.{Entry}
use Rattle.pv_complete.specs.Listings.{key}
use Rattle.pv_tables.specs.Tables.{IsBefore, kind_rank, site_number}

abbrev content_of : ℕ → Site
content_of y = site.Content (record { 0 = y })

abbrev name_of : ℕ → Site
name_of y = site.Name (record { 0 = y })

abbrev pub entry : Site → ℕ → ℕ → ℕ → Entry
entry s i j v = record { site = s; from = i; to = j; value = v }

-- a site is told by its kind and number
pub site_is : (a b : Site) → kind_rank (plain_site a) ≡ kind_rank (plain_site b) → site_number (plain_site a) ≡ site_number (plain_site b) → a ≡ b
site_is (site.Content x) (site.Content y) k q = ap content_of q
site_is (site.Content x) (site.Name y) k q = absurd (omega arith)
site_is (site.Content x) (site.Part y) k q = absurd (omega arith)
site_is (site.Content x) (site.Rest y) k q = absurd (omega arith)
site_is (site.Name x) (site.Content y) k q = absurd (omega arith)
site_is (site.Name x) (site.Name y) k q = ap name_of q
site_is (site.Name x) (site.Part y) k q = absurd (omega arith)
site_is (site.Name x) (site.Rest y) k q = absurd (omega arith)
site_is (site.Part x) (site.Content y) k q = absurd (omega arith)
site_is (site.Part x) (site.Name y) k q = absurd (omega arith)
site_is (site.Part x) (site.Part y) k q = ap site.Part q
site_is (site.Part x) (site.Rest y) k q = absurd (omega arith)
site_is (site.Rest x) (site.Content y) k q = absurd (omega arith)
site_is (site.Rest x) (site.Name y) k q = absurd (omega arith)
site_is (site.Rest x) (site.Part y) k q = absurd (omega arith)
site_is (site.Rest x) (site.Rest y) k q = ap site.Rest q

pub entry_is : (a b : Site) (i j v i' j' v' : ℕ) → a ≡ b → i ≡ i' → j ≡ j' → v ≡ v' → entry a i j v ≡ entry b i' j' v'
entry_is a b i j v i' j' v' p q r s = cc

module _ (a b c d : ℕ) where
  -- before the next place: before this one, or here
  pub before_cases : (k q i j : ℕ) → IsBefore (key a b c d) (key k q i (suc j)) → IsBefore (key a b c d) (key k q i j) ⊎ ((a ≡ k) × (b ≡ q) × (c ≡ i) × (d ≡ j))
  before_cases k q i j (inl x) = inl (inl x)
  before_cases k q i j (inr (e, inl x)) = inl (inr (e, inl x))
  before_cases k q i j (inr (e, inr (f, inl x))) = inl (inr (e, inr (f, inl x)))
  before_cases k q i j (inr (e, inr (f, inr (h, inl x)))) = at_place (cases_lt d j)
    where
      at_place : (d < j) ⊎ (j ≤ d) → IsBefore (key a b c d) (key k q i j) ⊎ ((a ≡ k) × (b ≡ q) × (c ≡ i) × (d ≡ j))
      at_place (inl y) = inl (inr (e, inr (f, inr (h, inl y))))
      at_place (inr y) = inr (e, f, h, omega arith)
  before_cases k q i j (inr (e, inr (f, inr (h, inr (o, z))))) = absurd z

  pub before_next : (k q i j : ℕ) → IsBefore (key a b c d) (key k q i j) → IsBefore (key a b c d) (key k q i (suc j))
  before_next k q i j (inl x) = inl x
  before_next k q i j (inr (e, inl x)) = inr (e, inl x)
  before_next k q i j (inr (e, inr (f, inl x))) = inr (e, inr (f, inl x))
  before_next k q i j (inr (e, inr (f, inr (h, inl x)))) = inr (e, inr (f, inr (h, inl (omega arith))))
  before_next k q i j (inr (e, inr (f, inr (h, inr (o, z))))) = absurd z

  pub before_here : IsBefore (key a b c d) (key a b c (suc d))
  before_here = inr (refl, inr (refl, inr (refl, inl (omega arith))))

  pub before_none : IsBefore (key a b c d) (key 0 0 0 0) → ⊥
  before_none (inl x) = omega arith
  before_none (inr (e, inl x)) = omega arith
  before_none (inr (e, inr (f, inl x))) = omega arith
  before_none (inr (e, inr (f, inr (h, inl x)))) = omega arith
  before_none (inr (e, inr (f, inr (h, inr (o, z))))) = z

  -- the spans from a place are done, and those from the next one begin
  pub place_done : (k q i n : ℕ) → IsBefore (key a b c d) (key k q i (suc n)) → IsBefore (key a b c d) (key k q (suc i) (suc i))
  place_done k q i n (inl x) = inl x
  place_done k q i n (inr (e, inl x)) = inr (e, inl x)
  place_done k q i n (inr (e, inr (f, inl x))) = inr (e, inr (f, inl (omega arith)))
  place_done k q i n (inr (e, inr (f, inr (h, x)))) = inr (e, inr (f, inl (omega arith)))

  pub place_back : (k q i n : ℕ) → c ≤ d → d ≤ n → IsBefore (key a b c d) (key k q (suc i) (suc i)) → IsBefore (key a b c d) (key k q i (suc n))
  place_back k q i n l m (inl x) = inl x
  place_back k q i n l m (inr (e, inl x)) = inr (e, inl x)
  place_back k q i n l m (inr (e, inr (f, inl x))) = at_place (cases_lt c i)
    where
      at_place : (c < i) ⊎ (i ≤ c) → IsBefore (key a b c d) (key k q i (suc n))
      at_place (inl y) = inr (e, inr (f, inl y))
      at_place (inr y) = inr (e, inr (f, inr (omega arith, inl (omega arith))))
  place_back k q i n l m (inr (e, inr (f, inr (h, inl x)))) = absurd (omega arith)
  place_back k q i n l m (inr (e, inr (f, inr (h, inr (o, z))))) = absurd z

  -- the spans of a site are done, and those of the next number begin
  pub site_done : (k q i j : ℕ) → IsBefore (key a b c d) (key k q i j) → IsBefore (key a b c d) (key k (suc q) 0 0)
  site_done k q i j (inl x) = inl x
  site_done k q i j (inr (e, inl x)) = inr (e, inl (omega arith))
  site_done k q i j (inr (e, inr (f, x))) = inr (e, inl (omega arith))

  number_cases : (k q : ℕ) → IsBefore (key a b c d) (key k (suc q) 0 0) → IsBefore (key a b c d) (key k q 0 0) ⊎ ((a ≡ k) × (b ≡ q))
  number_cases k q (inl x) = inl (inl x)
  number_cases k q (inr (e, inl x)) = at_number (cases_lt b q)
    where
      at_number : (b < q) ⊎ (q ≤ b) → IsBefore (key a b c d) (key k q 0 0) ⊎ ((a ≡ k) × (b ≡ q))
      at_number (inl y) = inl (inr (e, inl y))
      at_number (inr y) = inr (e, omega arith)
  number_cases k q (inr (e, inr (f, inl x))) = absurd (omega arith)
  number_cases k q (inr (e, inr (f, inr (h, inl x)))) = absurd (omega arith)
  number_cases k q (inr (e, inr (f, inr (h, inr (o, z))))) = absurd z

  number_first : (k q i j : ℕ) → IsBefore (key a b c d) (key k q 0 0) → IsBefore (key a b c d) (key k q i j)
  number_first k q i j (inl x) = inl x
  number_first k q i j (inr (e, inl x)) = inr (e, inl x)
  number_first k q i j (inr (e, inr (f, inl x))) = absurd (omega arith)
  number_first k q i j (inr (e, inr (f, inr (h, inl x)))) = absurd (omega arith)
  number_first k q i j (inr (e, inr (f, inr (h, inr (o, z))))) = absurd z

  pub site_back : (k q n : ℕ) → c ≤ d → d ≤ n → IsBefore (key a b c d) (key k (suc q) 0 0) → IsBefore (key a b c d) (key k q (suc n) (suc n))
  site_back k q n l m x = at_number (number_cases k q x)
    where
      at_number : IsBefore (key a b c d) (key k q 0 0) ⊎ ((a ≡ k) × (b ≡ q)) → IsBefore (key a b c d) (key k q (suc n) (suc n))
      at_number (inl y) = number_first k q (suc n) (suc n) y
      at_number (inr (e, f)) = inr (e, inr (f, inl (omega arith)))

  -- there is no site of this number
  pub number_back : (k q : ℕ) → (a ≡ k → b ≡ q → ⊥) → IsBefore (key a b c d) (key k (suc q) 0 0) → IsBefore (key a b c d) (key k q 0 0)
  number_back k q none x = at_number (number_cases k q x)
    where
      at_number : IsBefore (key a b c d) (key k q 0 0) ⊎ ((a ≡ k) × (b ≡ q)) → IsBefore (key a b c d) (key k q 0 0)
      at_number (inl y) = y
      at_number (inr (e, f)) = absurd (none e f)

  -- the sites of a kind are done, and those of the next one begin
  pub kind_done : (k m : ℕ) → IsBefore (key a b c d) (key k m 0 0) → IsBefore (key a b c d) (key (suc k) 0 0 0)
  kind_done k m (inl x) = inl (omega arith)
  kind_done k m (inr (e, x)) = inl (omega arith)

  pub kind_back : (k m : ℕ) → (a ≡ k → m ≤ b → ⊥) → IsBefore (key a b c d) (key (suc k) 0 0 0) → IsBefore (key a b c d) (key k m 0 0)
  kind_back k m none (inl x) = at_kind (cases_lt a k) (cases_lt b m)
    where
      at_kind : (a < k) ⊎ (k ≤ a) → (b < m) ⊎ (m ≤ b) → IsBefore (key a b c d) (key k m 0 0)
      at_kind (inl y) z = inl y
      at_kind (inr y) (inl z) = inr (omega arith, inl z)
      at_kind (inr y) (inr z) = absurd (none (omega arith) z)
  kind_back k m none (inr (e, inl x)) = absurd (omega arith)
  kind_back k m none (inr (e, inr (f, inl x))) = absurd (omega arith)
  kind_back k m none (inr (e, inr (f, inr (h, inl x)))) = absurd (omega arith)
  kind_back k m none (inr (e, inr (f, inr (h, inr (o, z))))) = absurd z

  -- all kinds are done
  pub all_before : a < 4 → IsBefore (key a b c d) (key 4 0 0 0)
  all_before x = inl x
