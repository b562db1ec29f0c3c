-- The sites that furthest places tell something of, found one by one.
use Rattle.std.proofs.Common.{List, Some, [], arith, inl, inr, length, refl, slice_get, subst, sym}
use Rattle.std.proofs.Common.{ℕ, ◌+◌, ◌++◌, ◌<◌, ◌∙◌, ◌∷◌, ◌≡◌, ◌⊎◌}
use Rattle.std.proofs.lemmas.Option.{slice_get_within}
use Rattle.pv_dtd.specs.Plain.{PlainDtd}
use Rattle.pv_rules.specs.PlainForms.{plain_site}
use Rattle.pv_rules.specs.Sites.{PlainSite}
use Rattle.pv_rules.specs.declared.sites.Site.{Site}
use Rattle.pv_tables.specs.TableLaws.{SitesAreTold}
use Rattle.pv_tables.specs.Tables.{kind_rank, site_number}
use Rattle.pv_reach.specs.declared.reaches.Reaches.{Reaches}
use Rattle.pv_denial.specs.Rows.{IsSiteBefore}
use Rattle.pv_deny.specs.ToldRows.{AreToldSites, IsBelow, IsTold, rank_of, site_by}
use Rattle.pv_deny.specs.declared.sites.Kind.{Kind}
use Rattle.pv_deny.specs.declared.sites.Kind.TheVariants as kind
use Rattle.pv_denial.proofs.Lists.{at_end, at_front, front_or_end, lt_or_eq}

below_more : (rank n : ℕ) (s : PlainSite) → IsBelow rank n s → IsBelow rank (n + 1) s
below_more rank n s (inl lt) = inl lt
below_more rank n s (inr (e, lt)) = inr (e, omega arith)

-- what is below one more number is below it, or is that of the number
below_or_here : (rank n : ℕ) (s : PlainSite) → IsBelow rank (n + 1) s → IsBelow rank n s ⊎ ((kind_rank s ≡ rank) × (site_number s ≡ n))
below_or_here rank n s (inl lt) = inl (inl lt)
below_or_here rank n s (inr (e, lt)) = by (lt_or_eq (site_number s) n (omega arith))
  where
    by : (site_number s < n) ⊎ (site_number s ≡ n) → IsBelow rank n s ⊎ ((kind_rank s ≡ rank) × (site_number s ≡ n))
    by (inl l) = inl (inr (e, l))
    by (inr same) = inr (e, same)

before_here : (rank n : ℕ) (a t : PlainSite) → kind_rank t ≡ rank → site_number t ≡ n → IsBelow rank n a → IsSiteBefore a t
before_here rank n a t k m (inl lt) = inl (omega arith)
before_here rank n a t k m (inr (e, lt)) = inr (omega arith, omega arith)

module _ (g : PlainDtd) (r : Reaches) (rank n : ℕ) (sites : List Site) (are : AreToldSites g r rank
    n sites) (t : PlainSite) (is_rank : kind_rank t ≡ rank) (is_number : site_number t ≡ n)
    (law : SitesAreTold) where
  -- the site of this number is told
  module _ (site : Site) (is : plain_site site ≡ t) (told : IsTold g r t) where
    one_each : (k : ℕ) (s : Site) → (slice_get sites k ≡ Some s) ⊎ ((k ≡ length sites) × (site ≡ s)) → IsTold g r (plain_site s) × IsBelow rank (n + 1) (plain_site s)
    one_each k s (inl e) = let o = are.each k s e in (o.0, below_more rank n (plain_site s) o.1)
    one_each k s (inr (_, same)) =
        let P : PlainSite → Type 0 = λ v. IsTold g r v × IsBelow rank (n + 1) v in
        let Q : Site → Type 0 = λ v. P (plain_site v) in
        subst Q same (subst P (sym is) (told, inr (is_rank, omega arith)))

    one_ascend : (j k : ℕ) (a b : Site) → j < k → (slice_get sites j ≡ Some a) ⊎ ((j ≡ length sites) × (site ≡ a)) → (slice_get sites k ≡ Some b) ⊎ ((k ≡ length sites) × (site ≡ b)) →
        IsSiteBefore (plain_site a) (plain_site b)
    one_ascend j k a b lt (inl e) (inl f) = are.ascend j k a b lt e f
    one_ascend j k a b lt (inl e) (inr (_, same)) =
        let before = before_here rank n (plain_site a) t is_rank is_number (are.each j a e).1 in
        let P : PlainSite → Type 0 = λ v. IsSiteBefore (plain_site a) v in
        let Q : Site → Type 0 = λ v. IsSiteBefore (plain_site a) (plain_site v) in
        subst Q same (subst P (sym is) before)
    one_ascend j k a b lt (inr (e, _)) (inl f) = let w = slice_get_within sites k b f in absurd (omega arith)
    one_ascend j k a b lt (inr (e, _)) (inr (f, _)) = absurd (omega arith)

    one_all : (s : PlainSite) → IsTold g r s → IsBelow rank n s ⊎ ((kind_rank s ≡ rank) × (site_number s ≡ n)) →
        (k : ℕ) × (u : Site) × (slice_get (sites ++ site ∷ []) k ≡ Some u) × (plain_site u ≡ s)
    one_all s h (inl below) = let o = are.all s h below in (o.0, o.1, at_front sites (site ∷ []) o.0 o.1 o.2, o.3)
    one_all s h (inr (k, m)) = (length sites, site, at_end sites site, is ∙ law t s (is_rank ∙ sym k) (is_number ∙ sym m))

    pub one_told : AreToldSites g r rank (n + 1) (sites ++ site ∷ [])
    one_told = record {
      each = λ k s e. one_each k s (front_or_end sites site k s e);
      ascend = λ j k a b lt e f. one_ascend j k a b lt (front_or_end sites site j a e) (front_or_end sites site k b f);
      all = λ s h below. one_all s h (below_or_here rank n s below);
    }

  -- it isn't
  module _ (not_told : IsTold g r t → ⊥) where
    skip_all : (s : PlainSite) → IsTold g r s → IsBelow rank n s ⊎ ((kind_rank s ≡ rank) × (site_number s ≡ n)) → (k : ℕ) × (u : Site) × (slice_get sites k ≡ Some u) × (plain_site u ≡ s)
    skip_all s h (inl below) = are.all s h below
    skip_all s h (inr (k, m)) =
        let P : PlainSite → Type 0 = λ v. IsTold g r v in
        absurd (not_told (subst P (law s t (k ∙ sym is_rank) (m ∙ sym is_number)) h))

    pub one_skipped : AreToldSites g r rank (n + 1) sites
    one_skipped = record {
      each = λ k s e. let o = are.each k s e in (o.0, below_more rank n (plain_site s) o.1);
      ascend = are.ascend;
      all = λ s h below. skip_all s h (below_or_here rank n s below);
    }

-- the site of a kind and a number
pub by_rank : (k : Kind) (n : ℕ) → kind_rank (site_by k n) ≡ rank_of k
by_rank kind.Contents n = refl
by_rank kind.Names n = refl
by_rank kind.Parts n = refl
by_rank kind.Rests n = refl

pub by_number : (k : Kind) (n : ℕ) → site_number (site_by k n) ≡ n
by_number kind.Contents n = refl
by_number kind.Names n = refl
by_number kind.Parts n = refl
by_number kind.Rests n = refl

pub told_at : (g : PlainDtd) (r : Reaches) (s t : PlainSite) → s ≡ t → IsTold g r s → IsTold g r t
told_at g r s t e h = subst (IsTold g r) e h
