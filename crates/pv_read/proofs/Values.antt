-- The values of attributes: in quotes, and made of pieces that hold no quote.
use Rattle.std.proofs.Common.{◌≡◌, ℕ, inl, inr, List, [], ◌∷◌, Bool, true, false, ◌||◌, ◌==◌, refl, sym, ap, subst, ◌∙◌, arith}
use Rattle.std.proofs.lemmas.Bool.Decides.{Decides-eqb}
use Rattle.std.proofs.lemmas.Str.{encode_ascii}
use Rattle.std.specs.List.{AllByRecursion}
use lib.Utf8.{encode}
use Rattle.pv_chars.specs.Declarations.{is_quote, IsQuoted}
use Rattle.pv_chars.specs.References.{IsReference}
use Rattle.pv_chars.specs.Texts.{joined}
use Rattle.pv_tree.specs.Attributes.{AreMadeOf, IsTextPiece, IsValuePiece, IsAttValue}
use Rattle.pv_read.proofs.AbsentBytes.{has_no, by_holds, holds_not, not_behind, both_have_no}
use Rattle.pv_read.proofs.AbsentBytes.{parts_have_no, code_has_no, reference_has_no, IsMark}
use Rattle.pv_read.proofs.AbsentBytes.{double_quote_is_mark, single_quote_is_mark}

-- a quote marks no reference
pub record IsQuoteMark (q : ℕ) : Type 0 where
  pub is_mark : IsMark q
  pub no_ampersand : (38 == q) ≡ false
  pub no_semicolon : (59 == q) ≡ false
  pub alone : encode q ≡ q ∷ []

quote_by : (q : ℕ) (double single : Bool) → (q == 34) ≡ double → (q == 39) ≡ single → (double || single) ≡ true → IsQuoteMark q
quote_by q true single e f is = subst IsQuoteMark (sym ((Decides-eqb q 34).0 e))
    record {
      is_mark = double_quote_is_mark;
      no_ampersand = refl;
      no_semicolon = refl;
      alone = encode_ascii 34 (omega arith);
    }
quote_by q false true e f is = subst IsQuoteMark (sym ((Decides-eqb q 39).0 f))
    record {
      is_mark = single_quote_is_mark;
      no_ampersand = refl;
      no_semicolon = refl;
      alone = encode_ascii 39 (omega arith);
    }
quote_by q false false e f is = cc

pub quote_marks : (q : ℕ) → is_quote q ≡ true → IsQuoteMark q
quote_marks q is = quote_by q (q == 34) (q == 39) refl refl is

module _ (R : List ℕ → Type 0) (are_references : (bytes : List ℕ) → R bytes → IsReference bytes) (q : ℕ) (m : IsQuoteMark q) where
  value_has_no : (ps : List (List ℕ)) → AllByRecursion (IsValuePiece q R) ps → has_no q (joined ps) ≡ true
  value_has_no [] all = refl
  value_has_no (p ∷ ps) (inl is, all) =
      both_have_no q p (joined ps) (rw is.0.whole (code_has_no is.0.code q m.is_mark.low (λ same. is.1 (is.0.whole ∙ ap encode same ∙ m.alone)))) (value_has_no ps all)
  value_has_no (p ∷ ps) (inr is, all) = both_have_no q p (joined ps) (reference_has_no q p m.is_mark m.no_ampersand m.no_semicolon (are_references p is)) (value_has_no ps all)

  texts : (ps : List (List ℕ)) → AllByRecursion (IsValuePiece q R) ps → AllByRecursion (IsTextPiece R) ps
  texts [] all = tt
  texts (p ∷ ps) (inl is, all) = (inl is.0, texts ps all)
  texts (p ∷ ps) (inr is, all) = (inr is, texts ps all)

  values : (ps : List (List ℕ)) → AllByRecursion (IsTextPiece R) ps → has_no q (joined ps) ≡ true → AllByRecursion (IsValuePiece q R) ps
  values [] all free = tt
  values (p ∷ ps) (inl is, all) free =
      let parts = parts_have_no q p (joined ps) free in
      (inl (is, λ same. not_behind q [] [] (let Q : List ℕ → Type 0 = λ l. has_no q l ≡ true in subst Q same parts.0)), values ps all parts.1)
  values (p ∷ ps) (inr is, all) free = (inr is, values ps all (parts_have_no q p (joined ps) free).1)

  pub value_free : (value : List ℕ) → AreMadeOf (IsValuePiece q R) value → has_no q value ≡ true
  value_free value a = rw a.whole (value_has_no a.pieces a.are_pieces)

  pub value_texts : (value : List ℕ) → AreMadeOf (IsValuePiece q R) value → AreMadeOf (IsTextPiece R) value
  value_texts value a = record { pieces = a.pieces; are_pieces = texts a.pieces a.are_pieces; whole = a.whole }

  pub texts_value : (value : List ℕ) → has_no q value ≡ true → AreMadeOf (IsTextPiece R) value → AreMadeOf (IsValuePiece q R) value
  texts_value value free a = record { pieces = a.pieces; are_pieces = values a.pieces a.are_pieces (let Q : List ℕ → Type 0 = λ l. has_no q l ≡ true in subst Q a.whole free); whole = a.whole }

module _ (R : List ℕ → Type 0) (are_references : (bytes : List ℕ) → R bytes → IsReference bytes) where
  -- an AttValue is a value in quotes that is made of pieces
  pub value_is_quoted : (bytes : List ℕ) → (is : IsAttValue R bytes) → IsQuoted is.value bytes × AreMadeOf (IsTextPiece R) is.value
  value_is_quoted bytes is =
      let m = quote_marks is.quote is.is_quote in (
        record { quote = is.quote; is_quote = is.is_quote; not_inside = holds_not is.quote is.value (value_free R are_references is.quote m is.value is.is_value); whole = is.whole },
        value_texts R are_references is.quote m is.value is.is_value,
      )

  pub quoted_is_value : (value bytes : List ℕ) → IsQuoted value bytes → AreMadeOf (IsTextPiece R) value → IsAttValue R bytes
  quoted_is_value value bytes is made =
      let m = quote_marks is.quote is.is_quote in
      record { quote = is.quote; value = value; is_quote = is.is_quote; is_value = texts_value R are_references is.quote m value (by_holds is.quote value is.not_inside) made; whole = is.whole }
