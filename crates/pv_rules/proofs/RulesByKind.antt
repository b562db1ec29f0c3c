-- The rules of a site are those of its kind.
use Rattle.std.proofs.Common.{List, None, Option, Some, [], arith, inl, inr, refl, suc, ℕ, ◌+◌, ◌∷◌, ◌≡◌}
use Rattle.pv_model.specs.Plain.{PlainModel, PlainPart, PlainParts, PlainToken}
use Rattle.pv_model.specs.Plain.{any, children, choice, empty, mixed, name, no_parts, opt, part, plus, seq, star}
use Rattle.pv_dtd.specs.Plain.{PlainDtd, model_of, parts_in}
use Rattle.pv_rules.specs.Kinds.{OfContent, OfName, OfPart, OfRest, OfSite, ToNone, ToOne, ToTwo}
use Rattle.pv_rules.specs.Numbering.{first_part, part_at, rest_at}
use Rattle.pv_rules.specs.Sites.{PlainSite, content_site, name_site, part_site, rest_site}
use Rattle.pv_rules.specs.Rules.{Goal, Rule, over}
use Rattle.pv_rules.specs.Rules.{any_name, any_none, any_text, children_part, empty_none, kept, missing, mixed_name, mixed_none, mixed_text, opt_none}
use Rattle.pv_rules.specs.Rules.{opt_one, part_choice, part_name, part_seq, plus_more, plus_one, rest_last, rest_then, star_more, star_none}

pub by_kind : (g : PlainDtd) (w : List PlainToken) (s : PlainSite) (i j c : ℕ) (xs : List Goal) →
    Rule g w (over s i j) c xs → OfSite g w i j c xs s
by_kind g w s i j c xs (kept x _ f) = inl (f, refl, refl, refl)
by_kind g w s i j c xs (missing x _ _ l) = inr (l, refl, refl)
by_kind g w s i j c xs (empty_none x _ l m) = rw m (refl, l, refl, refl)
by_kind g w s i j c xs (mixed_none x _ ys l m) = rw m (inl (refl, l, refl, refl))
by_kind g w s i j c xs (mixed_text x _ _ ys a l m f) = rw m (inr (inl (a, l, f, refl, refl)))
by_kind g w s i j c xs (mixed_name x e _ k _ ys a b l m f) = rw m (inr (inr (e, k, f, a, (b, l, refl, refl))))
by_kind g w s i j c xs (any_none x _ l m) = rw m (inl (refl, l, refl, refl))
by_kind g w s i j c xs (any_text x _ _ a l m f) = rw m (inr (inl (a, l, f, refl, refl)))
by_kind g w s i j c xs (any_name x y _ k _ a b l m d) = rw m (inr (inr (y, k, d, a, (b, l, refl, refl))))
by_kind g w s i j c xs (children_part x _ _ p l m) = rw m (l, refl, refl)
by_kind g w s i j c xs (part_name q y _ _ l e) = rw e (l, refl, refl)
by_kind g w s i j c xs (part_seq q _ _ p ps l e) = rw e (l, refl, refl)
by_kind g w s i j c xs (part_choice q r _ _ p ps l e m) = rw e (p, r, m, (l, refl, refl))
by_kind g w s i j c xs (opt_none q _ p l e) = rw e (inl (refl, l, refl, refl))
by_kind g w s i j c xs (opt_one q _ _ p l e) = rw e (inr (l, refl, refl))
by_kind g w s i j c xs (star_none q _ p l e) = rw e (inl (refl, l, refl, refl))
by_kind g w s i j c xs (star_more q _ k _ p a b l e) = rw e (inr (k, a, (b, l, refl, refl)))
by_kind g w s i j c xs (plus_one q _ _ p l e) = rw e (inl (l, refl, refl))
by_kind g w s i j c xs (plus_more q _ k _ p a b l e) = rw e (inr (k, a, b, (omega arith, l, refl, refl)))
by_kind g w s i j c xs (rest_last q _ _ p l e) = rw e (l, refl, refl)
by_kind g w s i j c xs (rest_then q _ k _ p r ps a b l e) = rw e (k, a, (b, l, refl, refl))

module _ (g : PlainDtd) (w : List PlainToken) (i j c : ℕ) (xs : List Goal) where
  abbrev Has : PlainSite → Type 0
  Has s = Rule g w (over s i j) c xs

  none : (s : PlainSite) → Rule g w (over s j j) 0 [] → ToNone g w i j c xs → Has s
  none s r (e, l, z, n) = rw (e, z, n) r

  one : (s o : PlainSite) → Rule g w (over s i j) 0 (over o i j ∷ []) → ToOne g w i j c xs o → Has s
  one s o r (l, z, n) = rw (z, n) r

  two : (s o r : PlainSite) (k : ℕ) → Rule g w (over s i j) 0 (over o i k ∷ over r k j ∷ []) →
      ToTwo g w i j c xs o r k → Has s
  two s o r k h (l, m, z, n) = rw (z, n) h

  of_name : (x : ℕ) → OfName g w i j c xs x → Has (name_site x)
  of_name x (inl (f, e, z, n)) = rw (e, z, n) (kept x i f)
  of_name x (inr (l, z, n)) = rw (z, n) (missing x i j l)

  of_content : (x : ℕ) (o : Option PlainModel) → model_of g x ≡ o → OfContent g w i j c xs x o →
      Has (content_site x)
  of_content x None e h = absurd h
  of_content x (Some empty) e h = none (content_site x) (empty_none x j h.1 e) h
  of_content x (Some any) e (inl h) = none (content_site x) (any_none x j h.1 e) h
  of_content x (Some any) e (inr (inl (a, l, f, z, n))) = rw (z, n) (any_text x i j a l e f)
  of_content x (Some any) e (inr (inr (y, k, d, a, h))) =
      two (content_site x) (name_site y) (content_site x) k (any_name x y i k j a h.0 h.1 e d) h
  of_content x (Some (mixed ys)) e (inl h) = none (content_site x) (mixed_none x j ys h.1 e) h
  of_content x (Some (mixed ys)) e (inr (inl (a, l, f, z, n))) =
      rw (z, n) (mixed_text x i j ys a l e f)
  of_content x (Some (mixed ys)) e (inr (inr (m, k, f, a, h))) =
      two (content_site x) (part_site (first_part g x + m)) (content_site x) k
      (mixed_name x m i k j ys a h.0 h.1 e f) h
  of_content x (Some (children p)) e h =
      one (content_site x) (part_site (first_part g x)) (children_part x i j p h.0 e) h

  of_part : (q : ℕ) (o : Option PlainPart) → part_at g q ≡ o → OfPart g w i j c xs q o →
      Has (part_site q)
  of_part q None e h = absurd h
  of_part q (Some (name y)) e h = one (part_site q) (name_site y) (part_name q y i j h.0 e) h
  of_part q (Some (seq no_parts)) e h = absurd h
  of_part q (Some (seq (part p ps))) e h =
      one (part_site q) (rest_site (suc q)) (part_seq q i j p ps h.0 e) h
  of_part q (Some (choice ps)) e (p, r, m, h) =
      one (part_site q) (part_site r) (part_choice q r i j p ps h.0 e m) h
  of_part q (Some (opt p)) e (inl h) = none (part_site q) (opt_none q j p h.1 e) h
  of_part q (Some (opt p)) e (inr h) =
      one (part_site q) (part_site (suc q)) (opt_one q i j p h.0 e) h
  of_part q (Some (star p)) e (inl h) = none (part_site q) (star_none q j p h.1 e) h
  of_part q (Some (star p)) e (inr (k, a, h)) =
      two (part_site q) (part_site (suc q)) (part_site q) k (star_more q i k j p a h.0 h.1 e) h
  of_part q (Some (plus p)) e (inl h) =
      one (part_site q) (part_site (suc q)) (plus_one q i j p h.0 e) h
  of_part q (Some (plus p)) e (inr (k, a, b, h)) =
      two (part_site q) (part_site (suc q)) (part_site q) k (plus_more q i k j p a b h.1 e) h

  of_rest : (q : ℕ) (o : Option PlainParts) → rest_at g q ≡ o → OfRest g w i j c xs q o →
      Has (rest_site q)
  of_rest q None e h = absurd h
  of_rest q (Some no_parts) e h = absurd h
  of_rest q (Some (part p no_parts)) e h =
      one (rest_site q) (part_site q) (rest_last q i j p h.0 e) h
  of_rest q (Some (part p (part r ps))) e (k, a, h) =
      two (rest_site q) (part_site q) (rest_site (q + parts_in p)) k
      (rest_then q i k j p r ps a h.0 h.1 e) h

pub from_kind : (g : PlainDtd) (w : List PlainToken) (s : PlainSite) (i j c : ℕ) (xs : List Goal) →
    OfSite g w i j c xs s → Rule g w (over s i j) c xs
from_kind g w (name_site x) i j c xs h = of_name g w i j c xs x h
from_kind g w (content_site x) i j c xs h = of_content g w i j c xs x (model_of g x) refl h
from_kind g w (part_site q) i j c xs h = of_part g w i j c xs q (part_at g q) refl h
from_kind g w (rest_site q) i j c xs h = of_rest g w i j c xs q (rest_at g q) refl h
