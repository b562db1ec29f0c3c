-- A word has one live word.
use Rattle.std.proofs.Common.{List, [], ap, refl, sym, ℕ, ◌∷◌, ◌≡◌}
use Rattle.pv_model.specs.Plain.{PlainToken, named, other, text}
use Rattle.pv_dtd.specs.Plain.{PlainDtd}
use Rattle.pv_missing.specs.LiveWords.{IsLiveWord, live_unproductive, live_name, live_none, live_other, live_text}
use Rattle.pv_dtd.specs.Productive.{IsProductive}
use Rattle.pv_missing.specs.WordLaws.{OneLiveWord}

once_text : (g : PlainDtd) (v w : List PlainToken) → IsLiveWord g v w → (r : List PlainToken) → v ≡ text ∷ r → (w' : List PlainToken) × (w ≡ text ∷ w') × IsLiveWord g r w'
once_text g v w live_none r e = absurd cc
once_text g v w (live_name y x x' p l) r e = absurd cc
once_text g v w (live_unproductive y x x' p l) r e = absurd cc
once_text g v w (live_text x x' l) r e = let i : x ≡ r = cc in (x', refl, rw i at l)
once_text g v w (live_other x x' l) r e = absurd cc

once_other : (g : PlainDtd) (v w : List PlainToken) → IsLiveWord g v w → (r : List PlainToken) → v ≡ other ∷ r → (w' : List PlainToken) × (w ≡ other ∷ w') × IsLiveWord g r w'
once_other g v w live_none r e = absurd cc
once_other g v w (live_name y x x' p l) r e = absurd cc
once_other g v w (live_unproductive y x x' p l) r e = absurd cc
once_other g v w (live_text x x' l) r e = absurd cc
once_other g v w (live_other x x' l) r e = let i : x ≡ r = cc in (x', refl, rw i at l)

once_name : (g : PlainDtd) (v w : List PlainToken) → IsLiveWord g v w → (y : ℕ) (r : List PlainToken) → IsProductive g y → v ≡ named y ∷ r →
    (w' : List PlainToken) × (w ≡ named y ∷ w') × IsLiveWord g r w'
once_name g v w live_none y r p e = absurd cc
once_name g v w (live_name z x x' q l) y r p e = let i : x ≡ r = cc in let j : z ≡ y = cc in (x', ap (λ a. named a ∷ x') j, rw i at l)
once_name g v w (live_unproductive z x x' q l) y r p e = absurd (let j : z ≡ y = cc in q (rw j p))
once_name g v w (live_text x x' l) y r p e = absurd cc
once_name g v w (live_other x x' l) y r p e = absurd cc

once_unproductive : (g : PlainDtd) (v w : List PlainToken) → IsLiveWord g v w → (y : ℕ) (r : List PlainToken) → (IsProductive g y → ⊥) → v ≡ named y ∷ r →
    (w' : List PlainToken) × (w ≡ other ∷ w') × IsLiveWord g r w'
once_unproductive g v w live_none y r p e = absurd cc
once_unproductive g v w (live_name z x x' q l) y r p e = absurd (let j : z ≡ y = cc in p (rw j at q))
once_unproductive g v w (live_unproductive z x x' q l) y r p e = let i : x ≡ r = cc in (x', refl, rw i at l)
once_unproductive g v w (live_text x x' l) y r p e = absurd cc
once_unproductive g v w (live_other x x' l) y r p e = absurd cc

once_none : (g : PlainDtd) (v w : List PlainToken) → IsLiveWord g v w → v ≡ [] → w ≡ []
once_none g v w live_none e = refl
once_none g v w (live_name z x x' q l) e = absurd cc
once_none g v w (live_unproductive z x x' q l) e = absurd cc
once_none g v w (live_text x x' l) e = absurd cc
once_none g v w (live_other x x' l) e = absurd cc

pub one_live_word : OneLiveWord
one_live_word g w a b live_none m = sym (once_none g [] b m refl)
one_live_word g w a b (live_name y x x' p l) m = let o = once_name g w b m y x p refl in let i = one_live_word g x x' o.0 l o.2 in rw (o.1, i) refl
one_live_word g w a b (live_unproductive y x x' p l) m = let o = once_unproductive g w b m y x p refl in let i = one_live_word g x x' o.0 l o.2 in rw (o.1, i) refl
one_live_word g w a b (live_text x x' l) m = let o = once_text g w b m x refl in let i = one_live_word g x x' o.0 l o.2 in rw (o.1, i) refl
one_live_word g w a b (live_other x x' l) m = let o = once_other g w b m x refl in let i = one_live_word g x x' o.0 l o.2 in rw (o.1, i) refl
