-- Entries in their order, and where another one stands among them.
use Rattle.std.proofs.Common.{◌≡◌, ◌<◌, ◌≤◌, ◌+◌, ◌⊎◌, ℕ, List, [], ◌∷◌, Option, Some, None, refl, inl, inr, sym, ◌∙◌, ap, subst, length, slice_get, get_or, arith}
use Rattle.std.specs.List.{AllPairs, Contains}
use Rattle.std.proofs.lemmas.Bool.{cases_lt}
use Rattle.std.proofs.lemmas.Option.{get_or_from_slice_get, slice_get-get_or, slice_get_within}
use Rattle.pv_rules.specs.Derivations.{heaviest}
use Rattle.pv_rules.specs.Rules.{Goal}
use Rattle.pv_tables.specs.TableLaws.{ListedOrNot}
use Rattle.pv_tables.specs.Tables.{IsBefore, Precedes, key_of, kind_rank, site_number}
use Rattle.pv_tables.specs.Values.{IsListed, IsUnlisted, goal_of, listed_value}
use Rattle.pv_tables.specs.declared.tables.Entry.{Entry}

pub before_through : (hs ks ls : List ℕ) → IsBefore hs ks → IsBefore ks ls → IsBefore hs ls
before_through [] ks ls b c = absurd b
before_through (h ∷ hs) [] ls b c = absurd b
before_through (h ∷ hs) (k ∷ ks) [] b c = absurd c
before_through (h ∷ hs) (k ∷ ks) (l ∷ ls) (inl x) (inl y) = inl (omega arith)
before_through (h ∷ hs) (k ∷ ks) (l ∷ ls) (inl x) (inr (e, y)) = inl (omega arith)
before_through (h ∷ hs) (k ∷ ks) (l ∷ ls) (inr (e, x)) (inl y) = inl (omega arith)
before_through (h ∷ hs) (k ∷ ks) (l ∷ ls) (inr (e, x)) (inr (f, y)) = inr (e ∙ f, before_through hs ks ls x y)

pub not_itself : (hs : List ℕ) → IsBefore hs hs → ⊥
not_itself [] b = b
not_itself (h ∷ hs) (inl x) = omega arith
not_itself (h ∷ hs) (inr (e, x)) = not_itself hs x

-- of two entries in order the one of the smaller place is before the other
pub in_order : (es : List Entry) → AllPairs Precedes es → (i j : ℕ) (a b : Entry) → slice_get es i ≡ Some a → slice_get es j ≡ Some b → i < j → Precedes a b
in_order es p i j a b e f lt =
    let one = get_or_from_slice_get es i a a e in
    let two = get_or_from_slice_get es j b a f in
    let l = slice_get_within es j b f in
    subst (λ (x : Entry). Precedes x b) one (subst (λ (y : Entry). Precedes (get_or es i a) y) two (p i j a lt l))

-- so many entries are before this one, and none from there on, as far as is known
pub record IsSplit (es : List Entry) (probe : Entry) (low high : ℕ) : Type 0 where
  pub rise : low ≤ high
  pub within : high ≤ length es
  pub before : (k : ℕ) (e : Entry) → k < low → slice_get es k ≡ Some e → Precedes e probe
  pub behind : (k : ℕ) (e : Entry) → high ≤ k → slice_get es k ≡ Some e → Precedes e probe → ⊥

module _ (es : List Entry) (p : AllPairs Precedes es) (probe : Entry) (low high m : ℕ) (e : Entry) (s : IsSplit es probe low high) (l : low ≤ m) (h : m < high) (at : slice_get es m ≡ Some e) where
  pub step_up : Precedes e probe → IsSplit es probe (m + 1) high
  step_up b = record { rise = omega arith; within = s.within; before = λ k d lt f. by_place k d lt f (cases_lt k m); behind = s.behind }
    where
      by_place : (k : ℕ) (d : Entry) → k < m + 1 → slice_get es k ≡ Some d → (k < m) ⊎ (m ≤ k) → Precedes d probe
      by_place k d lt f (inl less) = before_through (key_of d) (key_of e) (key_of probe) (in_order es p k m d e f at less) b
      by_place k d lt f (inr more) = let same : k ≡ m = omega arith in let same_entry : e ≡ d = cc in subst (λ (x : Entry). Precedes x probe) same_entry b

  pub step_down : (Precedes e probe → ⊥) → IsSplit es probe low m
  step_down b = record { rise = omega arith; within = let w = s.within in omega arith; before = s.before; behind = λ k d le f. by_place k d le f (cases_lt m k) }
    where
      by_place : (k : ℕ) (d : Entry) → m ≤ k → slice_get es k ≡ Some d → (m < k) ⊎ (k ≤ m) → Precedes d probe → ⊥
      by_place k d le f (inl less) c = b (before_through (key_of e) (key_of d) (key_of probe) (in_order es p m k e d at f less) c)
      by_place k d le f (inr more) c = let same : k ≡ m = omega arith in let same_entry : d ≡ e = cc in b (subst (λ (x : Entry). Precedes x probe) same_entry c)

-- ---- what is listed
pub contains_at : (es : List Entry) (e : Entry) → Contains es e → (k : ℕ) × (slice_get es k ≡ Some e)
contains_at es e (k, l, h) = (k, slice_get-get_or es k e l ∙ ap Some h)

pub at_contains : (es : List Entry) (e : Entry) (k : ℕ) → slice_get es k ≡ Some e → Contains es e
at_contains es e k at = (k, slice_get_within es k e at, get_or_from_slice_get es k e e at)

same_key : (e f : Entry) → goal_of e ≡ goal_of f → key_of e ≡ key_of f
same_key e f g = ap (λ (x : Goal). kind_rank x.site ∷ site_number x.site ∷ x.from ∷ x.to ∷ []) g

not_same : (e f : Entry) → goal_of e ≡ goal_of f → Precedes e f → ⊥
not_same e f g b = not_itself (key_of f) (subst (λ ks. IsBefore ks (key_of f)) (same_key e f g) b)

module _ (es : List Entry) (p : AllPairs Precedes es) where
  same_entry : (e f : Entry) → Contains es e → Contains es f → goal_of e ≡ goal_of f → e ≡ f
  same_entry e f m n g = by_places (contains_at es e m) (contains_at es f n)
    where
      by_places : (k : ℕ) × (slice_get es k ≡ Some e) → (k : ℕ) × (slice_get es k ≡ Some f) → e ≡ f
      by_places (i, at) (j, also) = by_order (cases_lt i j) (cases_lt j i)
        where
          by_order : (i < j) ⊎ (j ≤ i) → (j < i) ⊎ (i ≤ j) → e ≡ f
          by_order (inl less) o = absurd (not_same e f g (in_order es p i j e f at also less))
          by_order (inr more) (inl less) = absurd (not_same f e (sym g) (in_order es p j i f e also at less))
          by_order (inr more) (inr less) = let same : i ≡ j = omega arith in cc

  -- an entry's goal has its value
  pub own_value : ListedOrNot → (e : Entry) → Contains es e → listed_value es (goal_of e) ≡ e.value
  own_value cases e m = by_case (cases es (goal_of e))
    where
      by_case : IsListed es (goal_of e) ⊎ IsUnlisted es (goal_of e) → listed_value es (goal_of e) ≡ e.value
      by_case (inl (f, n, g, v)) = v ∙ ap (λ (x : Entry). x.value) (same_entry f e n m g)
      by_case (inr (v, none)) = absurd (none e m refl)

-- what isn't listed is past the cut
pub absent_value : ListedOrNot → (es : List Entry) (x : Goal) → ((e : Entry) → Contains es e → goal_of e ≡ x → ⊥) → listed_value es x ≡ heaviest
absent_value cases es x none = by_case (cases es x)
  where
    by_case : IsListed es x ⊎ IsUnlisted es x → listed_value es x ≡ heaviest
    by_case (inl (f, n, g, v)) = absurd (none f n g)
    by_case (inr (v, nothing)) = v

-- none of the entries has the goal, where none at this place has it
pub none_at : ListedOrNot → (es : List Entry) (probe : Entry) (k : ℕ) → AllPairs Precedes es →
    ((j : ℕ) (e : Entry) → j < k → slice_get es j ≡ Some e → Precedes e probe) →
    ((j : ℕ) (e : Entry) → k ≤ j → slice_get es j ≡ Some e → Precedes e probe → ⊥) →
    ((e : Entry) → slice_get es k ≡ Some e → goal_of e ≡ goal_of probe → ⊥) →
    listed_value es (goal_of probe) ≡ heaviest
none_at cases es probe k p before behind none = absent_value cases es (goal_of probe) (λ e m g. by_place e g (contains_at es e m))
  where
    by_place : (e : Entry) → goal_of e ≡ goal_of probe → (j : ℕ) × (slice_get es j ≡ Some e) → ⊥
    by_place e g (j, at) = by_order (cases_lt j k) (cases_lt k j)
      where
        by_order : (j < k) ⊎ (k ≤ j) → (k < j) ⊎ (j ≤ k) → ⊥
        by_order (inl less) o = not_same e probe g (before j e less at)
        by_order (inr more) (inr less) = let same : j ≡ k = omega arith in none e (subst (λ n. slice_get es n ≡ Some e) same at) g
        by_order (inr more) (inl less) = by_first (slice_get es k) refl
          where
            by_first : (o : Option Entry) → slice_get es k ≡ o → ⊥
            by_first None h = let w = slice_get_within es j e at in let f = slice_get-get_or es k e (omega arith) in absurd cc
            by_first (Some d) h = behind k d (omega arith) h (subst (λ ks. IsBefore (key_of d) ks) (same_key e probe g) (in_order es p k j d e h at less))
