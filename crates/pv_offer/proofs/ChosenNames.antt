-- Names picked out of a list.
use Rattle.std.proofs.Common.{Bool, List, Some, [], ap, arith, false, get_or, inl, inr, length, refl, slice_get, subst, suc, sym, take, true, zero, ℕ, ◌<◌, ◌++◌, ◌∷◌, ◌≡◌, ◌⊎◌}
use Rattle.std.specs.List.{AllZip, Contains}
use Rattle.pv_cache.specs.Stamps.{StampedDoc}
use Rattle.pv_edit.specs.declared.asks.Ask.{Ask}
use Rattle.pv_offer.specs.Laws.{OffersExactly}
use Rattle.pv_offer.specs.Offers.{IsOffered, Picks, TellsOffered, added, ends, leaves, takes}
use Rattle.pv_tree.proofs.JoinedLists.{contains_cases, contains_first, contains_later}

module _ {P : List ℕ → Type 0} where
  pub takes_last : {xs ys : List (List ℕ)} (x : List ℕ) → Picks P xs ys → P x → Picks P (xs ++ x ∷ []) (ys ++ x ∷ [])
  takes_last x ends p = takes p ends
  takes_last x (takes q rest) p = takes q (takes_last x rest p)
  takes_last x (leaves n rest) p = leaves n (takes_last x rest p)

  pub leaves_last : {xs ys : List (List ℕ)} (x : List ℕ) → Picks P xs ys → (P x → ⊥) → Picks P (xs ++ x ∷ []) ys
  leaves_last x ends n = leaves n ends
  leaves_last x (takes q rest) n = takes q (leaves_last x rest n)
  leaves_last x (leaves m rest) n = leaves m (leaves_last x rest n)

  pub one_pick : {xs ys zs : List (List ℕ)} → Picks P xs ys → Picks P xs zs → ys ≡ zs
  one_pick ends ends = refl
  one_pick (takes {x = x} p a) (takes q b) = ap (λ ns. x ∷ ns) (one_pick a b)
  one_pick (takes p a) (leaves n b) = absurd (n p)
  one_pick (leaves n a) (takes p b) = absurd (n p)
  one_pick (leaves n a) (leaves m b) = one_pick a b

  pub picked_holds : {xs ys : List (List ℕ)} (x : List ℕ) → Picks P xs ys → Contains ys x → P x
  picked_holds x ends (k, lt, e) = absurd (omega arith)
  picked_holds x (takes {x = y} {ys = ys} p rest) h = first_or p (picked_holds x rest) (contains_cases y ys x h)
    where
      first_or : P y → (Contains ys x → P x) → (y ≡ x) ⊎ Contains ys x → P x
      first_or p below (inl e) = subst P e p
      first_or p below (inr h) = below h
  picked_holds x (leaves n rest) h = picked_holds x rest h

  pub none_left_out : {xs ys : List (List ℕ)} (x : List ℕ) → Picks P xs ys → Contains xs x → (Contains ys x → ⊥) → P x → ⊥
  none_left_out x ends (k, lt, e) none p = absurd (omega arith)
  none_left_out x (takes {x = y} {xs = xs} {ys = ys} q rest) h none p = first_or none (λ h none. none_left_out x rest h none p) (contains_cases y xs x h)
    where
      first_or : (Contains (y ∷ ys) x → ⊥) → (Contains xs x → (Contains ys x → ⊥) → ⊥) → (y ≡ x) ⊎ Contains xs x → ⊥
      first_or none below (inl e) = none (subst (Contains (y ∷ ys)) e (contains_first y ys))
      first_or none below (inr h) = below h (λ k. none (contains_later y ys x k))
  none_left_out x (leaves {x = y} {xs = xs} n rest) h none p = first_or n p (λ h. none_left_out x rest h none p) (contains_cases y xs x h)
    where
      first_or : (P y → ⊥) → P x → (Contains xs x → ⊥) → (y ≡ x) ⊎ Contains xs x → ⊥
      first_or n p below (inl e) = n (subst P (sym e) p)
      first_or n p below (inr h) = below h

pub offers_exactly : OffersExactly
offers_exactly s ask names x are = ((λ h. picked_holds x are h), (λ h none p. none_left_out x are h none p))

-- one more name, by what is told of it
pub more_picked : (s : StampedDoc) (ask : Ask) (xs ys : List (List ℕ)) (x : List ℕ) (told : Bool) →
    Picks (IsOffered s ask) xs ys → TellsOffered s ask x told → Picks (IsOffered s ask) (xs
    ++ x ∷ []) (added told x ys)
more_picked s ask xs ys x true h p = takes_last x h p
more_picked s ask xs ys x false h p = leaves_last x h p

-- ---- places of lists
pub take_next : {X : Type 0} (xs : List X) (i : ℕ) (x : X) → slice_get xs i ≡ Some x → take (suc i) xs ≡ take i xs ++ x ∷ []
take_next [] i x h = absurd cc
take_next (y ∷ xs) zero x h = let e : y ≡ x = cc in rw e refl
take_next (y ∷ xs) (suc i) x h = ap (λ l. y ∷ l) (take_next xs i x h)

pub zip_get : {X Y : Type 0} (R : X → Y → Type 0) (xs : List X) (ys : List Y) (i : ℕ) (d : X) (e : Y) → AllZip R xs ys → i < length xs → R (get_or xs i d) (get_or ys i e)
zip_get R [] ys i d e h l = absurd (omega arith)
zip_get R (x ∷ xs) [] i d e h l = absurd h
zip_get R (x ∷ xs) (y ∷ ys) zero d e h l = h.0
zip_get R (x ∷ xs) (y ∷ ys) (suc i) d e h l = zip_get R xs ys i d e h.1 (omega arith)
