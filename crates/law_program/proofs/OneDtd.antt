-- A DTD has one response to `dtd`.
use Rattle.std.proofs.Common.{◌≡◌, ◌<◌, ◌∙◌, ℕ, suc, List, [], ◌∷◌, ◌++◌, ap, arith, codes, decimal}
use Rattle.std.proofs.Common.{inl, inr, sym}
use Rattle.std.proofs.lemmas.Bool.{cases_lt}
use Rattle.pv_model.specs.Plain.{PlainModel}
use Rattle.pv_dtd.specs.Plain.{PlainDtd, spelling_of}
use Rattle.pv_rules.specs.Derivations.{heaviest}
use Rattle.pv_productive.specs.Sizes.{IsCutSize}
use Rattle.pv_commands.specs.Dtd.{AreNameLines, IsNameLine, IsTreeText, TellsDtd, counted}
use Rattle.pv_commands.specs.Dtd.{model_text, over, unproductive}
use Rattle.pv_opening.specs.Response.{PlainResponse}

no_more : (g : PlainDtd) (y m n : ℕ) → IsCutSize g y m → IsCutSize g y n → n < heaviest → m ≡ n
no_more g y m n a b few =
    let s = b.reached few in let l = a.least s.kids s.fits s.good in let e = s.is_size in
    elim (cases_lt m heaviest) [
      | inl lt ↦ (let t = a.reached lt in let k = b.least t.kids t.fits t.good in
          let f = t.is_size in omega arith)
      | inr ge ↦ absurd (omega arith)
    ]

one_tree : (g : PlainDtd) (y : ℕ) (a b : List ℕ) → IsTreeText g y a → IsTreeText g y b → a ≡ b
one_tree g y a b (unproductive n e) (unproductive m f) = e ∙ sym f
one_tree g y a b (unproductive n e) (counted k c l f) = absurd (n c.productive)
one_tree g y a b (unproductive n e) (over c f) = absurd (n c.productive)
one_tree g y a b (counted k c l e) (unproductive m f) = absurd (m c.productive)
one_tree g y a b (counted k c l e) (counted j d h f) =
    let z = no_more g y k j c d h in e ∙ ap decimal z ∙ sym f
one_tree g y a b (counted k c l e) (over d f) =
    absurd (let z = no_more g y heaviest k d c l in omega arith)
one_tree g y a b (over c e) (unproductive m f) = absurd (m c.productive)
one_tree g y a b (over c e) (counted j d h f) =
    absurd (let z = no_more g y heaviest j c d h in omega arith)
one_tree g y a b (over c e) (over d f) = e ∙ sym f

one_line : (g : PlainDtd) (y : ℕ) (m : PlainModel) (a b : List ℕ) → IsNameLine g y m a →
    IsNameLine g y m b → a ≡ b
one_line g y m a b p q =
    p.is_line ∙ ap
    (λ t. spelling_of g y ++ codes " " ++ model_text m ++ codes " " ++ t ++ codes "\n")
    (one_tree g y p.tree q.tree p.is_tree q.is_tree) ∙ sym q.is_line

one_lines : (g : PlainDtd) (y : ℕ) (ms : List PlainModel) (a b : List ℕ) → AreNameLines g y ms a →
    AreNameLines g y ms b → a ≡ b
one_lines g y [] a b p q = p ∙ sym q
one_lines g y (m ∷ ms) a b (line, rest, l, r, e) (other, more, k, s, f) =
    let u = one_line g y m line other l k in let v = one_lines g (suc y) ms rest more r s in cc

pub one_dtd : (g : PlainDtd) (r also : PlainResponse) → TellsDtd g r → TellsDtd g also → r ≡ also
one_dtd g r also a b =
    let e = one_lines g 0 g.models a.lines b.lines a.are_lines b.are_lines in
    let f = a.is_response in let h = b.is_response in cc
