-- A free site derives each span of which it takes each token.
use Rattle.std.proofs.Common.{List, Some, [], arith, inl, inr, length, refl, slice_get, subst, suc, zero, ℕ, ◌+◌, ◌<◌, ◌∷◌, ◌≡◌, ◌≤◌, ◌⊎◌}
use Rattle.std.proofs.lemmas.Bool.{cases_lt}
use Rattle.std.proofs.lemmas.Option.{slice_get_within}
use Rattle.pv_model.specs.Plain.{PlainPart, PlainParts, PlainToken, children, empty, name, named, no_parts, opt, part, plus, seq, star}
use Rattle.pv_dtd.specs.Plain.{PlainDtd, model_of, parts_in}
use Rattle.pv_rules.specs.Derivations.{by_rule}
use Rattle.pv_rules.specs.Numbering.{first_part, part_at, rest_at}
use Rattle.pv_rules.specs.Rules.{any_name, any_none, any_text, children_part, empty_none, missing, mixed_name, mixed_none, mixed_text, opt_one}
use Rattle.pv_rules.specs.Rules.{part_choice, part_name, part_seq, plus_more, plus_one, rest_last, rest_then, star_more, star_none}
use Rattle.pv_rules.specs.Sites.{PlainSite, content_site, name_site, part_site, rest_site}
use Rattle.pv_rules.proofs.Spans.{over_spans}
use Rattle.pv_rules.specs.SiteDerivations.{DerivesAt}
use Rattle.law_free.specs.Free.{IsFree, free_any, free_children, free_choice, free_empty, free_first, free_last, free_later, free_mixed, free_name, free_opt, free_part, free_plus, free_seq, free_star}
use Rattle.law_free.specs.Laws.{FreeDerivesTaken, FreeFurthest}
use Rattle.law_free.specs.Live.{AreLive}
use Rattle.law_free.specs.Runs.{IsFirstNotTaken, IsFurthestEnd}
use Rattle.law_free.specs.Takes.{Takes, TakesAll, TakesEach, takes_any_name, takes_any_text, takes_children, takes_choice, takes_first, takes_kept}
use Rattle.law_free.specs.Takes.{takes_last, takes_later, takes_missing, takes_mixed_name, takes_mixed_text, takes_opt, takes_part, takes_plus}
use Rattle.law_free.specs.Takes.{takes_seq, takes_star}
use Rattle.law_free.proofs.ShortDerivations.{live_derives, none, one, takes_derives, two}
use Rattle.law_free.proofs.DerivedTokens.{derived_are_taken}

-- the token at a place within the word
token_at : (w : List PlainToken) (i : ℕ) → i < length w → (t : PlainToken) × (slice_get w i ≡ Some t)
token_at [] i l = absurd (omega arith)
token_at (t ∷ w) zero l = (t, refl)
token_at (t ∷ w) (suc i) l = token_at w i (omega arith)

-- so many places lie between two
between : (i j : ℕ) → i ≤ j → (n : ℕ) × (j ≡ i + n)
between zero j l = (j, omega arith)
between (suc i) zero l = absurd (omega arith)
between (suc i) (suc j) l = let r = between i j (omega arith) in let e = r.1 in (r.0, omega arith)

-- what a site takes that leads to one other alone
module _ (g : PlainDtd) where
  empty_takes : (x : ℕ) → model_of g x ≡ Some empty → (t : PlainToken) → Takes g t (content_site x) → ⊥
  empty_takes x e t (takes_mixed_text _ ys m f) = absurd cc
  empty_takes x e t (takes_mixed_name _ k ys m b v) = absurd cc
  empty_takes x e t (takes_any_text _ m f) = absurd cc
  empty_takes x e t (takes_any_name _ y m b v) = absurd cc
  empty_takes x e t (takes_children _ p m v) = absurd cc

  children_take : (x : ℕ) (p : PlainPart) → model_of g x ≡ Some (children p) → TakesAll g (content_site x) (part_site (first_part g x))
  children_take x p e t (takes_mixed_text _ ys m f) = absurd cc
  children_take x p e t (takes_mixed_name _ k ys m b v) = absurd cc
  children_take x p e t (takes_any_text _ m f) = absurd cc
  children_take x p e t (takes_any_name _ y m b v) = absurd cc
  children_take x p e t (takes_children _ o m v) = v

  part_takes : (q y : ℕ) → part_at g q ≡ Some (name y) → TakesAll g (part_site q) (name_site y)
  part_takes q y e t (takes_part _ z f v) = let i : z ≡ y = cc in rw i at v
  part_takes q y e t (takes_seq _ p ps f v) = absurd cc
  part_takes q y e t (takes_choice _ r p ps f m v) = absurd cc
  part_takes q y e t (takes_opt _ p f v) = absurd cc
  part_takes q y e t (takes_star _ p f v) = absurd cc
  part_takes q y e t (takes_plus _ p f v) = absurd cc

  seq_takes : (q : ℕ) (ps : PlainParts) → part_at g q ≡ Some (seq ps) → TakesAll g (part_site q) (rest_site (suc q))
  seq_takes q os e t (takes_part _ z f v) = absurd cc
  seq_takes q os e t (takes_seq _ p ps f v) = v
  seq_takes q os e t (takes_choice _ r p ps f m v) = absurd cc
  seq_takes q os e t (takes_opt _ p f v) = absurd cc
  seq_takes q os e t (takes_star _ p f v) = absurd cc
  seq_takes q os e t (takes_plus _ p f v) = absurd cc

  opt_takes : (q : ℕ) (o : PlainPart) → part_at g q ≡ Some (opt o) → TakesAll g (part_site q) (part_site (suc q))
  opt_takes q o e t (takes_part _ z f v) = absurd cc
  opt_takes q o e t (takes_seq _ p ps f v) = absurd cc
  opt_takes q o e t (takes_choice _ r p ps f m v) = absurd cc
  opt_takes q o e t (takes_opt _ p f v) = v
  opt_takes q o e t (takes_star _ p f v) = absurd cc
  opt_takes q o e t (takes_plus _ p f v) = absurd cc

  star_takes : (q : ℕ) (o : PlainPart) → part_at g q ≡ Some (star o) → TakesAll g (part_site q) (part_site (suc q))
  star_takes q o e t (takes_part _ z f v) = absurd cc
  star_takes q o e t (takes_seq _ p ps f v) = absurd cc
  star_takes q o e t (takes_choice _ r p ps f m v) = absurd cc
  star_takes q o e t (takes_opt _ p f v) = absurd cc
  star_takes q o e t (takes_star _ p f v) = v
  star_takes q o e t (takes_plus _ p f v) = absurd cc

  plus_takes : (q : ℕ) (o : PlainPart) → part_at g q ≡ Some (plus o) → TakesAll g (part_site q) (part_site (suc q))
  plus_takes q o e t (takes_part _ z f v) = absurd cc
  plus_takes q o e t (takes_seq _ p ps f v) = absurd cc
  plus_takes q o e t (takes_choice _ r p ps f m v) = absurd cc
  plus_takes q o e t (takes_opt _ p f v) = absurd cc
  plus_takes q o e t (takes_star _ p f v) = absurd cc
  plus_takes q o e t (takes_plus _ p f v) = v

  last_takes : (q : ℕ) (o : PlainPart) → rest_at g q ≡ Some (part o no_parts) → TakesAll g (rest_site q) (part_site q)
  last_takes q o e t (takes_last _ p f v) = v
  last_takes q o e t (takes_first _ p r ps f v u) = absurd cc
  last_takes q o e t (takes_later _ p r ps f u v) = absurd cc

  name_takes : (x : ℕ) → Takes g (named x) (content_site x) → TakesAll g (name_site x) (content_site x)
  name_takes x u t (takes_kept _ e) = rw e u
  name_takes x u t (takes_missing _ v) = v

module _ (g : PlainDtd) (w : List PlainToken) where
  each : (s a : PlainSite) (i j : ℕ) → TakesAll g s a → TakesEach g w s i j → TakesEach g w a i j
  each s a i j f u k t l h e = f t (u k t l h e)

  -- a site that derives one token more in front of what it derives, token by token
  abbrev Steps : PlainSite → Type 0
  Steps s = (i j : ℕ) (t : PlainToken) → slice_get w i ≡ Some t → i < j → j ≤ length w → Takes g t s → DerivesAt g w s (suc i) j → DerivesAt g w s i j

  module _ (s : PlainSite) (base : (i : ℕ) → i ≤ length w → DerivesAt g w s i i) (step : Steps s) where
    runs : (n i j : ℕ) → j ≡ i + n → j ≤ length w → TakesEach g w s i j → DerivesAt g w s i j
    runs zero i j e l u = let P : ℕ → Type 0 = λ v. DerivesAt g w s i v in let z : i ≡ j = omega arith in subst P z (base i (omega arith))
    runs (suc n) i j e l u =
        let h : i < length w = omega arith in let c = token_at w i h in
        step i j c.0 c.1 (omega arith) l (u i c.0 (omega arith) (omega arith) c.1) (runs n (suc i) j (omega arith) l (λ k t a b f. u k t (omega arith) b f))

  -- content that repeats what it takes
  content_steps : (x : ℕ) → ((p : PlainPart) → model_of g x ≡ Some (children p) → ⊥) → Steps (content_site x)
  content_steps x not i j t f h l (takes_mixed_text _ ys m e) d = one g w (content_site x) (content_site x) i j (suc i) j 0 (mixed_text x i j ys h l m (cc)) d
  content_steps x not i j t f h l (takes_mixed_name _ k ys m b v) d =
      two g w (content_site x) (part_site (first_part g x + k)) (content_site x) i (suc i) j 0 (mixed_name x k i (suc i) j ys (omega arith) h l m b)
      (takes_derives g w i t f (omega arith) (part_site (first_part g x + k)) v) d
  content_steps x not i j t f h l (takes_any_text _ m e) d = one g w (content_site x) (content_site x) i j (suc i) j 0 (any_text x i j h l m (cc)) d
  content_steps x not i j t f h l (takes_any_name _ y m b v) d =
      two g w (content_site x) (name_site y) (content_site x) i (suc i) j 0 (any_name x y i (suc i) j (omega arith) h l m b) (takes_derives g w i t f (omega arith) (name_site y) v) d
  content_steps x not i j t f h l (takes_children _ p m v) d = absurd (not p m)

  star_steps : (q : ℕ) (p : PlainPart) → part_at g q ≡ Some (star p) → Steps (part_site q)
  star_steps q p e i j t f h l v d =
      two g w (part_site q) (part_site (suc q)) (part_site q) i (suc i) j 0 (star_more q i (suc i) j p (omega arith) h l e)
      (takes_derives g w i t f (omega arith) (part_site (suc q)) (star_takes g q p e t v)) d

  plus_case : (q : ℕ) (p : PlainPart) (i j : ℕ) → part_at g q ≡ Some (plus p) → i < j → j ≤ length w → DerivesAt g w (part_site (suc q)) i (suc i) → DerivesAt g w (part_site q) (suc i) j →
      (suc i < j) ⊎ (j ≤ suc i) → DerivesAt g w (part_site q) i j
  plus_case q p i j e h l d f (inl c) = two g w (part_site q) (part_site (suc q)) (part_site q) i (suc i) j 0 (plus_more q i (suc i) j p (omega arith) c l e) d f
  plus_case q p i j e h l d f (inr c) =
      let P : ℕ → Type 0 = λ v. DerivesAt g w (part_site q) i v in let z : suc i ≡ j = omega arith in
      subst P z (one g w (part_site q) (part_site (suc q)) i (suc i) i (suc i) 0 (plus_one q i (suc i) p (omega arith, omega arith) e) d)

  plus_steps : (q : ℕ) (p : PlainPart) → part_at g q ≡ Some (plus p) → Steps (part_site q)
  plus_steps q p e i j t f h l v d = plus_case q p i j e h l (takes_derives g w i t f (omega arith) (part_site (suc q)) (plus_takes g q p e t v)) d (cases_lt (suc i) j)

  abbrev Span : ℕ → ℕ → Type 0
  Span i j = (i ≤ j) × (j ≤ length w)

  whole_run : (s : PlainSite) → ((i : ℕ) → i ≤ length w → DerivesAt g w s i i) → Steps s → (i j : ℕ) → Span i j → TakesEach g w s i j → DerivesAt g w s i j
  whole_run s base step i j l u = let n = between i j l.0 in runs s base step n.0 i j n.1 l.1 u

  empty_case : (x i j : ℕ) → model_of g x ≡ Some empty → Span i j → TakesEach g w (content_site x) i j → (i < j) ⊎ (j ≤ i) → DerivesAt g w (content_site x) i j
  empty_case x i j m l u (inl c) = let h : i < length w = let y = l.1 in omega arith in let t = token_at w i h in absurd (empty_takes g x m t.0 (u i t.0 (omega arith) c t.1))
  empty_case x i j m l u (inr c) =
      let P : ℕ → Type 0 = λ v. DerivesAt g w (content_site x) i v in let z : i ≡ j = let y = l.0 in omega arith in
      let b : i ≤ length w = let y = l.1 in omega arith in
      subst P z (none g w (content_site x) i i 0 (empty_none x i b m))

  pub free_derives : (s : PlainSite) → IsFree g s → (i j : ℕ) → Span i j → TakesEach g w s i j → DerivesAt g w s i j
  free_derives s (free_empty x m) i j l u = empty_case x i j m l u (cases_lt i j)
  free_derives s (free_mixed x ys m) i j l u =
      whole_run (content_site x) (λ k h. none g w (content_site x) k k 0 (mixed_none x k ys h m)) (content_steps x (λ p e. cc)) i j l u
  free_derives s (free_any x m) i j l u = whole_run (content_site x) (λ k h. none g w (content_site x) k k 0 (any_none x k h m)) (content_steps x (λ p e. cc)) i j l u
  free_derives s (free_children x p m f) i j l u =
      one g w (content_site x) (part_site (first_part g x)) i j i j 0 (children_part x i j p l m)
      (free_derives (part_site (first_part g x)) f i j l (each (content_site x) (part_site (first_part g x)) i j (children_take g x p m) u))
  free_derives s (free_name x f v) i j l u =
      one g w (name_site x) (content_site x) i j i j 1 (missing x i j l) (free_derives (content_site x) f i j l (each (name_site x) (content_site x) i j (name_takes g x v) u))
  free_derives s (free_part q y e f) i j l u =
      one g w (part_site q) (name_site y) i j i j 0 (part_name q y i j l e) (free_derives (name_site y) f i j l (each (part_site q) (name_site y) i j (part_takes g q y e) u))
  free_derives s (free_seq q p ps e f) i j l u =
      one g w (part_site q) (rest_site (suc q)) i j i j 0 (part_seq q i j p ps l e)
      (free_derives (rest_site (suc q)) f i j l (each (part_site q) (rest_site (suc q)) i j (seq_takes g q (part p ps) e) u))
  free_derives s (free_choice q r p ps e m f a) i j l u =
      one g w (part_site q) (part_site r) i j i j 0 (part_choice q r i j p ps l e m) (free_derives (part_site r) f i j l (each (part_site q) (part_site r) i j a u))
  free_derives s (free_opt q p e f) i j l u =
      one g w (part_site q) (part_site (suc q)) i j i j 0 (opt_one q i j p l e)
      (free_derives (part_site (suc q)) f i j l (each (part_site q) (part_site (suc q)) i j (opt_takes g q p e) u))
  free_derives s (free_star q p e) i j l u = whole_run (part_site q) (λ k h. none g w (part_site q) k k 0 (star_none q k p h e)) (star_steps q p e) i j l u
  free_derives s (free_plus q p e v) i j l u =
      whole_run (part_site q)
      (λ k h. one g w (part_site q) (part_site (suc q)) k k k k 0 (plus_one q k k p (omega arith, h) e) (live_derives g w (part_site (suc q)) k h v))
      (plus_steps q p e) i j l u
  free_derives s (free_last q p e f) i j l u =
      one g w (rest_site q) (part_site q) i j i j 0 (rest_last q i j p l e) (free_derives (part_site q) f i j l (each (rest_site q) (part_site q) i j (last_takes g q p e) u))
  free_derives s (free_first q p r ps e f v a) i j l u =
      two g w (rest_site q) (part_site q) (rest_site (q + parts_in p)) i j j 0 (rest_then q i j j p r ps l.0 (omega arith) l.1 e)
      (free_derives (part_site q) f i j l (each (rest_site q) (part_site q) i j a u)) (live_derives g w (rest_site (q + parts_in p)) j l.1 v)
  free_derives s (free_later q p r ps e v f a) i j l u =
      let b : i ≤ length w = let x = l.0 in let y = l.1 in omega arith in
      two g w (rest_site q) (part_site q) (rest_site (q + parts_in p)) i i j 0 (rest_then q i i j p r ps (omega arith) l.0 l.1 e)
      (live_derives g w (part_site q) i b v) (free_derives (rest_site (q + parts_in p)) f i j l (each (rest_site q) (rest_site (q + parts_in p)) i j a u))

pub free_derives_taken : FreeDerivesTaken
free_derives_taken g w live s free i j l h = ((λ d. (derived_are_taken g w live s i j d).1), (λ u. free_derives g w s free i j (l, h) u))

module _ (g : PlainDtd) (w : List PlainToken) (live : AreLive g w) (s : PlainSite) (free : IsFree g s) (i j : ℕ) where
  -- one token more is taken
  longer : TakesEach g w s i j → (t : PlainToken) → slice_get w j ≡ Some t → Takes g t s → TakesEach g w s i (suc j)
  longer u t f v k o l h e = elim (cases_lt k j) [
    | inl c ↦ u k o l c e
    | inr c ↦ let z : k ≡ j = omega arith in let q : t ≡ o = cc in rw q at v
  ]

  derives_span : (k : ℕ) → DerivesAt g w s i k → (i ≤ k) × (k ≤ length w)
  derives_span k (n, by_rule _ c m _ xs e r d) = (over_spans g w s i k c xs r).0

  pub to_first : IsFurthestEnd g w s i j → IsFirstNotTaken g w s i j
  to_first f = record {
    behind = behind;
    within = f.within;
    taken = taken;
    stops = λ t e v. let c = f.most (suc j) (free_derives g w s free i (suc j) (omega (arith, behind), slice_get_within w j t e) (longer taken t e v)) in absurd (omega arith);
  }
    where
      taken : TakesEach g w s i j
      taken = (derived_are_taken g w live s i j f.reached).1

      behind : i ≤ j
      behind = (derives_span j f.reached).0

  below : IsFirstNotTaken g w s i j → (k : ℕ) → DerivesAt g w s i k → (j < k) ⊎ (k ≤ j) → k ≤ j
  below f k d (inr c) = c
  below f k d (inl c) =
      let b = (derives_span k d).1 in let h : j < length w = omega arith in let t = token_at w j h in
      absurd (f.stops t.0 t.1 ((derived_are_taken g w live s i k d).1 j t.0 f.behind c t.1))

  pub from_first : IsFirstNotTaken g w s i j → IsFurthestEnd g w s i j
  from_first f = record {
    within = f.within;
    reached = free_derives g w s free i j (f.behind, f.within) f.taken;
    most = λ k d. below f k d (cases_lt j k);
  }

pub free_furthest : FreeFurthest
free_furthest g w live s free i j l = (to_first g w live s free i j, from_first g w live s free i j)
