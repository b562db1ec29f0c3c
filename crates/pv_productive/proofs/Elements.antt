-- Productive names and least sizes, by hedges of one element.
use Rattle.std.proofs.Common.{List, Some, [], arith, refl, suc, ℕ, ◌≡◌}
use Rattle.pv_dtd.specs.Hedge.{AreGood, Fits, Hedge, IsValid, done, elem, elements}
use Rattle.pv_dtd.specs.Plain.{PlainDtd, number_of}
use Rattle.pv_dtd.specs.Productive.{IsLeastSize, IsProductive}
use Rattle.pv_productive.specs.Laws.{IsLeastInElement, ProductiveIsElement, SizeIsOfElement}

module _ (g : PlainDtd) (x : List ℕ) (y : ℕ) (e : number_of g x ≡ Some y) where
  -- kids that make an element good
  record GoodKids (k : Hedge) : Type 0 where
    pub fits : Fits g y k
    pub good : AreGood g k

  valid_one : (k : Hedge) → Fits g y k → AreGood g k → IsValid g x (elem x [] k done)
  valid_one k f a = record { attrs = []; kids = k; is_root = refl; good = (y, e, f, a, tt) }

  good_kids : (h : Hedge) (v : IsValid g x h) → GoodKids v.kids
  good_kids h v =
      let a : AreGood g (elem x v.attrs v.kids done) = rw v.is_root at v.good in
      let z : a.0 ≡ y = let i = a.1 in cc in
      let f : Fits g y v.kids = rw z at a.2 in record { fits = f; good = a.3 }

  size_of_valid : (h : Hedge) (v : IsValid g x h) → elements h ≡ suc (elements v.kids)
  size_of_valid h v = rw v.is_root (omega arith)

  productive_to : IsProductive g y → (h : Hedge) × IsValid g x h
  productive_to p = (elem x [] p.kids done, valid_one p.kids p.fits p.good)

  productive_from : ((h : Hedge) × IsValid g x h) → IsProductive g y
  productive_from (h, v) =
      let k = good_kids h v in record { kids = v.kids; fits = k.fits; good = k.good }

  size_to : (n : ℕ) → IsLeastSize g y n → IsLeastInElement g x n
  size_to n s = record {
    hedge = elem x [] s.kids done;
    good = valid_one s.kids s.fits s.good;
    is_number = let i = s.is_size in omega arith;
    least = λ h v. let k = good_kids h v in let l = s.least v.kids k.fits k.good in
        let i = size_of_valid h v in omega arith;
  }

  size_from : (n : ℕ) → IsLeastInElement g x n → IsLeastSize g y n
  size_from n s =
      let k = good_kids s.hedge s.good in
      record {
        kids = s.good.kids;
        fits = k.fits;
        good = k.good;
        is_size = let i = size_of_valid s.hedge s.good in let j = s.is_number in omega arith;
        least = λ h f a. let l = s.least (elem x [] h done) (valid_one h f a) in omega arith;
      }

pub productive_is_element : ProductiveIsElement
productive_is_element g x y e = (productive_to g x y e, productive_from g x y e)

pub size_is_of_element : SizeIsOfElement
size_is_of_element g x y n e = (size_to g x y e n, size_from g x y e n)
