-- Items of a list and of another that change places, and those that are left moved.
use Rattle.std.proofs.Common.{◌≡◌, ℕ, ◌+◌, ◌-◌, ◌≤◌, List, [], ◌++◌, length, take, drop}
use Rattle.std.proofs.Common.{refl, sym, ap, ◌∙◌, arith, append_assoc, take-add, drop-drop}
use Rattle.std.proofs.Math.Seq.{take-append_seam, drop-append_seam, take-append-le}
use Rattle.std.proofs.lemmas.List.{append-nil, drop-take, drop_all, drop_at, length-append}
use Rattle.std.proofs.lemmas.List.{length-drop, length-take-le, take-append-drop, take-take}
use Rattle.std.proofs.lemmas.List.{take_all, take_at}
use Rattle.std.proofs.lemmas.List.Edits.{length-between}
use Rattle.std.specs.List.{between, splice}

-- the last so many, moved before those from a place on
rotated : {X : Type 0} (a b f : List X) (from n : ℕ) → length a ≡ from → length b ≡ n →
    take from ((a ++ b) ++ f) ++
    (drop n (drop from ((a ++ b) ++ f)) ++ take n (drop from ((a ++ b) ++ f)))
    ≡ a ++ (f ++ b)
rotated a b f from n e g =
    rw (
      ← e,
      ← g,
      append_assoc a b f,
      take-append_seam a (b ++ f),
      drop-append_seam a (b ++ f),
      drop-append_seam b f,
      take-append_seam b f,
    ) refl

-- a part of a list, cut out of its front
between_cut : {X : Type 0} (from to : ℕ) (l : List X) → from ≤ to →
    between from to l ≡ drop from (take to l)
between_cut from to l h =
    sym (drop-take from (to - from) l) ∙ ap (λ (k : ℕ). drop from (take k l)) (omega arith)

-- two parts of a list, side by side
between_both : {X : Type 0} (from mid to : ℕ) (l : List X) → from ≤ mid → mid ≤ to →
    between from mid l ++ between mid to l ≡ between from to l
between_both from mid to l h g =
    let d : drop (mid - from) (drop from l) ≡ drop mid l =
    drop-drop (mid - from) from l ∙ ap (λ (k : ℕ). drop k l) (omega arith) in
    sym (ap (λ (k : ℕ). take k (drop from l)) (omega arith)
    ∙ take-add (mid - from) (to - mid) (drop from l)
    ∙ ap (λ t. take (mid - from) (drop from l) ++ take (to - mid) t) d)

-- how many are moved
pub moved_count : (from mid all left more came put : ℕ) → from ≤ mid → mid ≤ all →
    left + (mid - from) ≡ all → came ≡ more → put ≡ left + came →
    from + (more + (put - from - more)) ≡ put
moved_count from mid all left more came put a b l c p = omega arith

module _ {X : Type 0} (from mid to more : ℕ) (ks ns traded : List X) (a : from ≤ mid) (b : mid ≤ to)
    (c : to ≤ length ks) (t : traded ≡ splice ks mid to (drop more ns)) where
  -- what is left of the list without those in front that give way
  left_items : take from traded ++ drop mid traded
      ≡ take from ks ++ (drop more ns ++ drop to ks)
  left_items =
      let l : length (take mid ks) ≡ mid = length-take-le mid ks (omega arith) in
      let front : take from traded ≡ take from ks =
      ap (take from) t
      ∙ take-append-le from (take mid ks) (drop more ns ++ drop to ks) (omega (arith, l))
      ∙ take-take from mid ks a in
      let back : drop mid traded ≡ drop more ns ++ drop to ks =
      ap (drop mid) t ∙ drop_at (take mid ks) (drop more ns ++ drop to ks) mid l in
      rw (front, back) refl

  -- the others are moved after it, and then before it
  pub exchanged_items : (n : ℕ) (left put all : List X) → more ≤ length ns →
      from + (more + n) ≡ length put → left ≡ take from traded ++ drop mid traded →
      put ≡ left ++ take more ns →
      all ≡ take from put ++ (drop n (drop from put) ++ take n (drop from put)) →
      all ≡ splice ks from to ns
  exchanged_items n left put all m e l p h =
      let first = take from ks in
      let last = drop more ns ++ drop to ks in
      let is : put ≡ (first ++ last) ++ take more ns =
      p ∙ ap (λ (x : List X). x ++ take more ns) (l ∙ left_items) in
      let all_count = ap length is ∙ length-append (first ++ last) (take more ns) in
      let count : length last ≡ n =
      omega (
        arith,
        e,
        all_count,
        length-append first last,
        length-take-le more ns m,
        length-take-le from ks (omega arith),
      ) in
      h ∙ ap (λ (x : List X). take from x ++ (drop n (drop from x) ++ take n (drop from x))) is
      ∙ rotated first last (take more ns) from n (length-take-le from ks (omega arith)) count
      ∙ ap (λ (x : List X). first ++ x)
      (sym (append_assoc (take more ns) (drop more ns) (drop to ks))
      ∙ ap (λ (x : List X). x ++ drop to ks) (take-append-drop more ns))

  -- those that give way are taken out, from the list and then from the other
  pub exchanged_taken : (end : ℕ) (nodes none some gone : List X) → more ≤ length ns →
      end ≡ more + (to - mid) → nodes ≡ take more ns ++ between mid to ks → none ≡ [] →
      some ≡ none ++ between from mid traded → gone ≡ some ++ between more end nodes →
      gone ≡ between from to ks
  exchanged_taken end nodes none some gone m n e z s g =
      let l : length (take mid ks) ≡ mid = length-take-le mid ks (omega arith) in
      let first : between from mid traded ≡ between from mid ks =
      between_cut from mid traded a
      ∙ ap (drop from) (ap (take mid) t
      ∙ take_at (take mid ks) (drop more ns ++ drop to ks) mid l)
      ∙ sym (between_cut from mid ks a) in
      let rest : drop more nodes ≡ between mid to ks =
      ap (drop more) e
      ∙ drop_at (take more ns) (between mid to ks) more (length-take-le more ns m) in
      let second : between more end nodes ≡ between mid to ks =
      ap (take (end - more)) rest
      ∙ take_all (end - more) (between mid to ks)
      (omega (arith, length-between ks mid to c)) in
      g ∙ rw (s, z, first, second) (between_both from mid to ks a b)

  -- what is left of the other
  pub exchanged_left : (end : ℕ) (nodes left : List X) → more ≤ length ns →
      end ≡ more + (to - mid) → nodes ≡ take more ns ++ between mid to ks →
      left ≡ take more nodes ++ drop end nodes → left ≡ take more ns
  exchanged_left end nodes left m k e h =
      let l : length (take more ns) ≡ more = length-take-le more ns m in
      let r : length (between mid to ks) ≡ to - mid = length-between ks mid to c in
      let n : length nodes ≡ more + (to - mid) =
      ap length e ∙ length-append (take more ns) (between mid to ks) ∙ rw (l, r) refl in
      h ∙ rw (
        ap (take more) e ∙ take_at (take more ns) (between mid to ks) more l,
        drop_all end nodes (omega (arith, n)),
      )
      (append-nil (take more ns))
