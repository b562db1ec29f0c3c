-- Derivations of the empty span and of one token, from what is live and what is taken.
use Rattle.std.proofs.Common.{List, Some, [], arith, length, refl, slice_get, suc, zero, ℕ, ◌+◌, ◌∷◌, ◌≡◌, ◌≤◌}
use Rattle.std.specs.List.{AllByRecursion}
use Rattle.pv_model.specs.Plain.{PlainToken, named}
use Rattle.pv_dtd.specs.Plain.{PlainDtd, parts_in}
use Rattle.pv_rules.specs.Derivations.{by_rule, none_left, one_more}
use Rattle.pv_rules.specs.Numbering.{first_part}
use Rattle.pv_rules.specs.Rules.{Goal, Rule, any_name, any_none, any_text, children_part, empty_none, kept, missing, mixed_name, mixed_none}
use Rattle.pv_rules.specs.Rules.{mixed_text, opt_none, opt_one, over, part_choice, part_name, part_seq, plus_more, plus_one, rest_last, rest_then}
use Rattle.pv_rules.specs.Rules.{star_more, star_none}
use Rattle.pv_rules.specs.Sites.{PlainSite, content_site, name_site, part_site, rest_site}
use Rattle.pv_rules.proofs.DerivationLaws.{held}
use Rattle.pv_rules.specs.SiteDerivations.{DerivesAt}
use Rattle.law_free.specs.Laws.{LiveDerivesNothing}
use Rattle.law_free.specs.Live.{AreLive, IsLiveSite, IsLiveToken, live_any, live_children, live_choice, live_empty, live_last, live_mixed, live_name}
use Rattle.law_free.specs.Live.{live_opt, live_part, live_plus, live_rest, live_seq, live_star}
use Rattle.law_free.specs.Takes.{Takes, takes_any_name, takes_any_text, takes_children, takes_choice, takes_first, takes_kept, takes_last}
use Rattle.law_free.specs.Takes.{takes_later, takes_missing, takes_mixed_name, takes_mixed_text, takes_opt, takes_part, takes_plus, takes_seq}
use Rattle.law_free.specs.Takes.{takes_star}

pub all_at : {A : Type 0} (P : A → Type 0) (xs : List A) (i : ℕ) (x : A) → AllByRecursion P xs → slice_get xs i ≡ Some x → P x
all_at P [] i x a e = absurd cc
all_at P (y ∷ ys) zero x a e = let p : y ≡ x = cc in rw p at a.0
all_at P (y ∷ ys) (suc i) x a e = all_at P ys i x a.1 e

module _ (g : PlainDtd) (w : List PlainToken) where
  -- by a rule with no right side, with one, and with two
  pub none : (s : PlainSite) (i j c : ℕ) → Rule g w (over s i j) c [] → DerivesAt g w s i j
  none s i j c r = (c, by_rule c c 0 (over s i j) [] (omega arith) r (none_left 0 refl))

  pub one : (s a : PlainSite) (i j k l c : ℕ) → Rule g w (over s i j) c (over a k l ∷ []) → DerivesAt g w a k l → DerivesAt g w s i j
  one s a i j k l c r (n, d) = (c + n, by_rule (c + n) c n (over s i j) (over a k l ∷ []) refl r (one_more n n 0 (over a k l) [] (omega arith) d (none_left 0 refl)))

  pub two : (s a b : PlainSite) (i k j c : ℕ) → Rule g w (over s i j) c (over a i k ∷ over b k j ∷ []) → DerivesAt g w a i k → DerivesAt g w b k j → DerivesAt g w s i j
  two s a b i k j c r (n, d) (m, f) = (
    c + (n + m),
    by_rule (c + (n + m)) c (n + m) (over s i j) (over a i k ∷ over b k j ∷ []) refl r
        (one_more (n + m) n m (over a i k) (over b k j ∷ []) refl d (one_more m m 0 (over b k j) [] (omega arith) f (none_left 0 refl))),
  )

  pub live_derives : (s : PlainSite) (i : ℕ) → i ≤ length w → IsLiveSite g s → DerivesAt g w s i i
  live_derives s i l (live_name x v) = one (name_site x) (content_site x) i i i i 1 (missing x i i (omega arith, l)) (live_derives (content_site x) i l v)
  live_derives s i l (live_empty x m) = none (content_site x) i i 0 (empty_none x i l m)
  live_derives s i l (live_mixed x ys m) = none (content_site x) i i 0 (mixed_none x i ys l m)
  live_derives s i l (live_any x m) = none (content_site x) i i 0 (any_none x i l m)
  live_derives s i l (live_children x p m v) =
      one (content_site x) (part_site (first_part g x)) i i i i 0 (children_part x i i p (omega arith, l) m) (live_derives (part_site (first_part g x)) i l v)
  live_derives s i l (live_part q y e v) = one (part_site q) (name_site y) i i i i 0 (part_name q y i i (omega arith, l) e) (live_derives (name_site y) i l v)
  live_derives s i l (live_seq q p ps e v) = one (part_site q) (rest_site (suc q)) i i i i 0 (part_seq q i i p ps (omega arith, l) e) (live_derives (rest_site (suc q)) i l v)
  live_derives s i l (live_choice q r p ps e m v) = one (part_site q) (part_site r) i i i i 0 (part_choice q r i i p ps (omega arith, l) e m) (live_derives (part_site r) i l v)
  live_derives s i l (live_opt q p e) = none (part_site q) i i 0 (opt_none q i p l e)
  live_derives s i l (live_star q p e) = none (part_site q) i i 0 (star_none q i p l e)
  live_derives s i l (live_plus q p e v) = one (part_site q) (part_site (suc q)) i i i i 0 (plus_one q i i p (omega arith, l) e) (live_derives (part_site (suc q)) i l v)
  live_derives s i l (live_last q p e v) = one (rest_site q) (part_site q) i i i i 0 (rest_last q i i p (omega arith, l) e) (live_derives (part_site q) i l v)
  live_derives s i l (live_rest q p r ps e v u) =
      two (rest_site q) (part_site q) (rest_site (q + parts_in p)) i i i 0 (rest_then q i i i p r ps (omega arith) (omega arith) l e) (live_derives (part_site q) i l v)
      (live_derives (rest_site (q + parts_in p)) i l u)

  module _ (live : AreLive g w) where
    pub live_closed : (x : Goal) (c : ℕ) (xs : List Goal) → Rule g w x c xs → AllByRecursion (λ (y : Goal). IsLiveSite g y.site) xs → IsLiveSite g x.site
    live_closed x c xs (kept y i f) a = all_at (IsLiveToken g) w i (named y) live f
    live_closed x c xs (missing y i j l) a = live_name y a.0
    live_closed x c xs (empty_none y i l m) a = live_empty y m
    live_closed x c xs (mixed_none y i ys l m) a = live_mixed y ys m
    live_closed x c xs (mixed_text y i j ys l h m f) a = live_mixed y ys m
    live_closed x c xs (mixed_name y e i k j ys l h n m b) a = live_mixed y ys m
    live_closed x c xs (any_none y i l m) a = live_any y m
    live_closed x c xs (any_text y i j l h m f) a = live_any y m
    live_closed x c xs (any_name y z i k j l h n m d) a = live_any y m
    live_closed x c xs (children_part y i j p l m) a = live_children y p m a.0
    live_closed x c xs (part_name q y i j l e) a = live_part q y e a.0
    live_closed x c xs (part_seq q i j p ps l e) a = live_seq q p ps e a.0
    live_closed x c xs (part_choice q r i j p ps l e m) a = live_choice q r p ps e m a.0
    live_closed x c xs (opt_none q i p l e) a = live_opt q p e
    live_closed x c xs (opt_one q i j p l e) a = live_opt q p e
    live_closed x c xs (star_none q i p l e) a = live_star q p e
    live_closed x c xs (star_more q i k j p l h n e) a = live_star q p e
    live_closed x c xs (plus_one q i j p l e) a = live_plus q p e a.0
    live_closed x c xs (plus_more q i k j p l h n e) a = live_plus q p e a.0
    live_closed x c xs (rest_last q i j p l e) a = live_last q p e a.0
    live_closed x c xs (rest_then q i k j p r ps l h n e) a = live_rest q p r ps e a.0 a.1.0

    pub derives_live : (s : PlainSite) (i j : ℕ) → DerivesAt g w s i j → IsLiveSite g s
    derives_live s i j (n, d) = held (Rule g w) (λ (y : Goal). IsLiveSite g y.site) live_closed n (over s i j) d

  -- a taken token is derived
  pub takes_derives : (i : ℕ) (t : PlainToken) → slice_get w i ≡ Some t → suc i ≤ length w → (s : PlainSite) → Takes g t s → DerivesAt g w s i (suc i)
  takes_derives i t f l s (takes_kept x e) = none (name_site x) i (suc i) 0 (kept x i (cc))
  takes_derives i t f l s (takes_missing x v) = one (name_site x) (content_site x) i (suc i) i (suc i) 1 (missing x i (suc i) (omega arith, l)) (takes_derives i t f l (content_site x) v)
  takes_derives i t f l s (takes_mixed_text x ys m e) =
      one (content_site x) (content_site x) i (suc i) (suc i) (suc i) 0 (mixed_text x i (suc i) ys (omega arith) l m (cc)) (none (content_site x) (suc i) (suc i) 0 (mixed_none x (suc i) ys l m))
  takes_derives i t f l s (takes_mixed_name x e ys m b v) =
      two (content_site x) (part_site (first_part g x + e)) (content_site x) i (suc i) (suc i) 0 (mixed_name x e i (suc i) (suc i) ys (omega arith) (omega arith) l m b)
      (takes_derives i t f l (part_site (first_part g x + e)) v) (none (content_site x) (suc i) (suc i) 0 (mixed_none x (suc i) ys l m))
  takes_derives i t f l s (takes_any_text x m e) =
      one (content_site x) (content_site x) i (suc i) (suc i) (suc i) 0 (any_text x i (suc i) (omega arith) l m (cc)) (none (content_site x) (suc i) (suc i) 0 (any_none x (suc i) l m))
  takes_derives i t f l s (takes_any_name x y m b v) =
      two (content_site x) (name_site y) (content_site x) i (suc i) (suc i) 0 (any_name x y i (suc i) (suc i) (omega arith) (omega arith) l m b)
      (takes_derives i t f l (name_site y) v) (none (content_site x) (suc i) (suc i) 0 (any_none x (suc i) l m))
  takes_derives i t f l s (takes_children x p m v) =
      one (content_site x) (part_site (first_part g x)) i (suc i) i (suc i) 0 (children_part x i (suc i) p (omega arith, l) m) (takes_derives i t f l (part_site (first_part g x)) v)
  takes_derives i t f l s (takes_part q y e v) = one (part_site q) (name_site y) i (suc i) i (suc i) 0 (part_name q y i (suc i) (omega arith, l) e) (takes_derives i t f l (name_site y) v)
  takes_derives i t f l s (takes_seq q p ps e v) =
      one (part_site q) (rest_site (suc q)) i (suc i) i (suc i) 0 (part_seq q i (suc i) p ps (omega arith, l) e) (takes_derives i t f l (rest_site (suc q)) v)
  takes_derives i t f l s (takes_choice q r p ps e m v) =
      one (part_site q) (part_site r) i (suc i) i (suc i) 0 (part_choice q r i (suc i) p ps (omega arith, l) e m) (takes_derives i t f l (part_site r) v)
  takes_derives i t f l s (takes_opt q p e v) = one (part_site q) (part_site (suc q)) i (suc i) i (suc i) 0 (opt_one q i (suc i) p (omega arith, l) e) (takes_derives i t f l (part_site (suc q)) v)
  takes_derives i t f l s (takes_star q p e v) =
      two (part_site q) (part_site (suc q)) (part_site q) i (suc i) (suc i) 0 (star_more q i (suc i) (suc i) p (omega arith) (omega arith) l e)
      (takes_derives i t f l (part_site (suc q)) v) (none (part_site q) (suc i) (suc i) 0 (star_none q (suc i) p l e))
  takes_derives i t f l s (takes_plus q p e v) = one (part_site q) (part_site (suc q)) i (suc i) i (suc i) 0 (plus_one q i (suc i) p (omega arith, l) e) (takes_derives i t f l (part_site (suc q)) v)
  takes_derives i t f l s (takes_last q p e v) = one (rest_site q) (part_site q) i (suc i) i (suc i) 0 (rest_last q i (suc i) p (omega arith, l) e) (takes_derives i t f l (part_site q) v)
  takes_derives i t f l s (takes_first q p r ps e v u) =
      two (rest_site q) (part_site q) (rest_site (q + parts_in p)) i (suc i) (suc i) 0 (rest_then q i (suc i) (suc i) p r ps (omega arith) (omega arith) l e)
      (takes_derives i t f l (part_site q) v) (live_derives (rest_site (q + parts_in p)) (suc i) l u)
  takes_derives i t f l s (takes_later q p r ps e u v) =
      two (rest_site q) (part_site q) (rest_site (q + parts_in p)) i i (suc i) 0 (rest_then q i i (suc i) p r ps (omega arith) (omega arith) l e)
      (live_derives (part_site q) i (omega arith) u) (takes_derives i t f l (rest_site (q + parts_in p)) v)

pub live_derives_nothing : LiveDerivesNothing
live_derives_nothing g w live s i l = ((λ d. derives_live g w live s i i d), (λ v. live_derives g w s i l v))
