-- Characters that stand for themselves and references, one after another.
use Rattle.std.proofs.Common.{◌≡◌, ℕ, ◌<◌, ◌⊎◌, inl, inr, ⊎_elim, List, [], ◌∷◌, ◌++◌, true, false, ◌==◌, length, refl, sym, ap, subst, ◌∙◌, arith, append_assoc, length-append}
use Rattle.std.proofs.lemmas.Bool.{and_parts, and_from, cases_lt}
use Rattle.std.proofs.lemmas.List.{append-nil}
use Rattle.std.specs.Prelude.{codes}
use Rattle.std.specs.List.{list_all, AllByRecursion}
use lib.Utf8.{encode, encodes}
use Rattle.pv_chars.specs.Characters.{AreAll}
use Rattle.pv_chars.specs.Fronts.{Begins, BeginsNone}
use Rattle.pv_chars.specs.References.{IsReference}
use Rattle.pv_chars.specs.Texts.{joined}
use Rattle.pv_chars.specs.Units.{is_literal, IsLiteral}
use Rattle.pv_chars.proofs.CharacterLemmas.{AreAll-append, none_in_nothing}
use Rattle.pv_chars.proofs.FirstDelimiters.{overlap}
use Rattle.pv_read.specs.Takes.{IsCutBefore}
use Rattle.pv_read.proofs.AbsentBytes.{by_holds}
use Rattle.pv_tree.specs.Attributes.{AreMadeOf, IsTextPiece}
use Rattle.pv_read.proofs.AbsentBytes.{has_no, code_has_no, parts_have_no, both_have_no, not_behind}
use Rattle.pv_read.proofs.AbsentBytes.{reference_has_no, reference_inner, IsMark, ampersand_is_mark}

pub nothing : (P : List ℕ → Type 0) → AreMadeOf P []
nothing P = record { pieces = []; are_pieces = tt; whole = refl }

pub one_more : (P : List ℕ → Type 0) (piece bytes : List ℕ) → P piece → AreMadeOf P bytes → AreMadeOf P (piece ++ bytes)
one_more P piece bytes is a = record { pieces = piece ∷ a.pieces; are_pieces = (is, a.are_pieces); whole = ap (λ l. piece ++ l) a.whole }

literal_is : (c b : ℕ) → is_literal c ≡ true → is_literal b ≡ false → c ≡ b → ⊥
literal_is c b is other e = let no : is_literal b ≡ true = subst (λ k. is_literal k ≡ true) e is in cc

-- where each of the references is one, and at most one stands at a place
module _ (R : List ℕ → Type 0) (are_references : (bytes : List ℕ) → R bytes → IsReference bytes) where
  abbrev P : List ℕ → Type 0
  P = IsTextPiece R

  pub literals_first : (cs : List ℕ) (rest : List ℕ) → list_all is_literal cs ≡ true → AreMadeOf P rest → AreMadeOf P (encodes cs ++ rest)
  literals_first [] rest all a = a
  literals_first (c ∷ cs) rest all a =
      let parts = and_parts (is_literal c) (list_all is_literal cs) all in
      let literal : IsLiteral (encode c) = record { code = c; is_literal = parts.0; whole = refl } in
      let M : List ℕ → Type 0 = λ l. AreMadeOf P l in
      subst M (sym (append_assoc (encode c) (encodes cs) rest)) (one_more P (encode c) (encodes cs ++ rest) (inl literal) (literals_first cs rest parts.1 a))

  pub literals_in_front : (before rest : List ℕ) → AreAll is_literal before → AreMadeOf P rest → AreMadeOf P (before ++ rest)
  literals_in_front before rest all a = let M : List ℕ → Type 0 = λ l. AreMadeOf P (l ++ rest) in subst M (sym all.spelled) (literals_first all.codes rest all.pass a)

  -- What the pieces are, where `&` stands there for the first time.
  pub record Cut (before more : List ℕ) : Type 0 where
    pub reference : List ℕ
    pub rest : List ℕ
    pub are_literals : AreAll is_literal before
    pub is_reference : R reference
    pub whole : more ≡ reference ++ rest
    pub are_pieces : AreMadeOf P rest

  literal_all : (u : List ℕ) → IsLiteral u → AreAll is_literal u
  literal_all u is = record { codes = is.code ∷ []; pass = and_from (is_literal is.code) true is.is_literal refl; spelled = is.whole ∙ sym (append-nil (encode is.code)) }

  literal_no_ampersand : (u : List ℕ) → IsLiteral u → has_no 38 u ≡ true
  literal_no_ampersand u is = rw is.whole (code_has_no is.code 38 (omega arith) (literal_is is.code 38 is.is_literal refl))

  -- a literal in front ends before the `&`
  cut_literal : (u others before more : List ℕ) → IsLiteral u → u ++ others ≡ before ++ (38 ∷ more) → (between : List ℕ) × (before ≡ u ++ between) × (others ≡ between ++ (38 ∷ more))
  cut_literal u others before more is e = ⊎_elim
      (λ less. let o = overlap u others before (38 ∷ more) e (omega arith) in absurd (short o.between o.front o.back less))
      (λ fits. let o = overlap before (38 ∷ more) u others (sym e) fits in (o.between, o.front, o.back))
      (cases_lt (length before) (length u))
    where
      short : (between : List ℕ) → u ≡ before ++ between → 38 ∷ more ≡ between ++ others → length before < length u → ⊥
      short [] f g less = omega (arith, ap length f, length-append before [])
      short (x ∷ xs) f g less =
          let first : x ≡ 38 = cc in
          let free : has_no 38 (before ++ (x ∷ xs)) ≡ true = let Q : List ℕ → Type 0 = λ l. has_no 38 l ≡ true in subst Q f (literal_no_ampersand u is) in
          let Q : ℕ → Type 0 = λ y. has_no 38 (before ++ (y ∷ xs)) ≡ true in
          not_behind 38 before xs (subst Q first free)

  cut_pieces : (ps : List (List ℕ)) (before more : List ℕ) → AllByRecursion P ps → has_no 38 before ≡ true → joined ps ≡ before ++ (38 ∷ more) → Cut before (38 ∷ more)
  cut_pieces [] [] more all free e = cc
  cut_pieces [] (x ∷ xs) more all free e = cc
  cut_pieces (p ∷ ps) before more (inl is, all) free e =
      let c = cut_literal p (joined ps) before more is e in
      let parts = parts_have_no 38 p c.0 (let Q : List ℕ → Type 0 = λ l. has_no 38 l ≡ true in subst Q c.1 free) in
      let below = cut_pieces ps c.0 more all parts.1 c.2 in
      record {
        reference = below.reference;
        rest = below.rest;
        are_literals = let Q : List ℕ → Type 0 = λ l. AreAll is_literal l in subst Q (sym c.1) (AreAll-append is_literal p c.0 (literal_all p is) below.are_literals);
        is_reference = below.is_reference;
        whole = below.whole;
        are_pieces = below.are_pieces;
      }
  cut_pieces (p ∷ ps) [] more (inr is, all) free e =
      record {
        reference = p;
        rest = joined ps;
        are_literals = none_in_nothing is_literal;
        is_reference = is;
        whole = sym e;
        are_pieces = record { pieces = ps; are_pieces = all; whole = refl };
      }
  cut_pieces (p ∷ ps) (x ∷ xs) more (inr is, all) free e =
      let i = reference_inner 38 p ampersand_is_mark (are_references p is) in
      let f : x ∷ (xs ++ (38 ∷ more)) ≡ 38 ∷ ((i.inner ++ codes ";") ++ joined ps) = sym e ∙ ap (λ l. l ++ joined ps) i.whole in
      let first : x ≡ 38 = cc in
      let Q : ℕ → Type 0 = λ y. has_no 38 (y ∷ xs) ≡ true in
      absurd (not_behind 38 [] xs (subst Q first free))

  pub cut_at_reference : (before more : List ℕ) → has_no 38 before ≡ true → AreMadeOf P (before ++ (38 ∷ more)) → Cut before (38 ∷ more)
  cut_at_reference before more free a = cut_pieces a.pieces before more a.are_pieces free (sym a.whole)

  only_literals : (ps : List (List ℕ)) → AllByRecursion P ps → has_no 38 (joined ps) ≡ true → AreAll is_literal (joined ps)
  only_literals [] all free = none_in_nothing is_literal
  only_literals (p ∷ ps) (inl is, all) free = AreAll-append is_literal p (joined ps) (literal_all p is) (only_literals ps all (parts_have_no 38 p (joined ps) free).1)
  only_literals (p ∷ ps) (inr is, all) free =
      let i = reference_inner 38 p ampersand_is_mark (are_references p is) in
      let Q : List ℕ → Type 0 = λ l. has_no 38 l ≡ true in
      absurd (not_behind 38 [] (i.inner ++ codes ";") (subst Q i.whole (parts_have_no 38 p (joined ps) free).0))

  pub without_reference : (bytes : List ℕ) → has_no 38 bytes ≡ true → AreMadeOf P bytes → AreAll is_literal bytes
  without_reference bytes free a =
      let Q : List ℕ → Type 0 = λ l. has_no 38 l ≡ true in
      let L : List ℕ → Type 0 = λ l. AreAll is_literal l in
      subst L (sym a.whole) (only_literals a.pieces a.are_pieces (subst Q a.whole free))

  -- bytes that are no white space and mark no reference don't stand in pieces, but as literals
  pieces_have_no : (b : ℕ) → IsMark b → is_literal b ≡ false → (38 == b) ≡ false → (59 == b) ≡ false → (ps : List (List ℕ)) → AllByRecursion P ps → has_no b (joined ps) ≡ true
  pieces_have_no b m other ampersand semicolon [] all = refl
  pieces_have_no b m other ampersand semicolon (p ∷ ps) (inl is, all) = both_have_no b p (joined ps)
      (rw is.whole (code_has_no is.code b m.low (literal_is is.code b is.is_literal other)))
      (pieces_have_no b m other ampersand semicolon ps all)
  pieces_have_no b m other ampersand semicolon (p ∷ ps) (inr is, all) = both_have_no b p (joined ps)
      (reference_has_no b p m ampersand semicolon (are_references p is))
      (pieces_have_no b m other ampersand semicolon ps all)

  pub made_have_no : (b : ℕ) (bytes : List ℕ) → IsMark b → is_literal b ≡ false → (38 == b) ≡ false → (59 == b) ≡ false → AreMadeOf P bytes → has_no b bytes ≡ true
  made_have_no b bytes m other ampersand semicolon a = rw a.whole (pieces_have_no b m other ampersand semicolon a.pieces a.are_pieces)

  -- ---- a run of literals, and what stands after it
  pub front_literals : (bytes before more : List ℕ) → IsCutBefore 38 bytes before more → AreMadeOf P bytes → AreAll is_literal before
  front_literals bytes before more cut a = by cut.ends
    where
      Q : List ℕ → Type 0
      Q l = AreMadeOf P l

      free : has_no 38 before ≡ true
      free = by_holds 38 before cut.free

      by : (more ≡ []) ⊎ ((after : List ℕ) × (more ≡ 38 ∷ after)) → AreAll is_literal before
      by (inl e) = without_reference before free (subst (λ (l : List ℕ). AreMadeOf P l) (cut.whole ∙ ap (λ l. before ++ l) e ∙ append-nil before) a)
      by (inr e) = (cut_at_reference before e.0 free (subst (λ (l : List ℕ). AreMadeOf P l) (cut.whole ∙ ap (λ l. before ++ l) e.1) a)).are_literals

  pub none_is_made : (bytes before more : List ℕ) → IsCutBefore 38 bytes before more → (more ≡ [] → ⊥) → BeginsNone R more → AreMadeOf P bytes → ⊥
  none_is_made bytes before more cut some none a = by cut.ends
    where
      by : (more ≡ []) ⊎ ((after : List ℕ) × (more ≡ 38 ∷ after)) → ⊥
      by (inl e) = some e
      by (inr e) =
          let c = cut_at_reference before e.0 (by_holds 38 before cut.free) (subst (λ (l : List ℕ). AreMadeOf P l) (cut.whole ∙ ap (λ l. before ++ l) e.1) a) in
          none c.rest record { item = c.reference; is_item = c.is_reference; whole = e.1 ∙ c.whole }

  pub made_of_literals : (bytes before more : List ℕ) → IsCutBefore 38 bytes before more → more ≡ [] → AreAll is_literal before → AreMadeOf P bytes
  made_of_literals bytes before more cut e all = subst (λ (l : List ℕ). AreMadeOf P l) (sym (cut.whole ∙ ap (λ l. before ++ l) e)) (literals_in_front before [] all (nothing P))

  -- the step of a reader that has found literals and a reference
  pub made_before : (bytes before more rest : List ℕ) → IsCutBefore 38 bytes before more → AreAll is_literal before → Begins R more rest → AreMadeOf P rest → AreMadeOf P bytes
  made_before bytes before more rest cut all b a =
      subst (λ (l : List ℕ). AreMadeOf P l) (sym (cut.whole ∙ ap (λ l. before ++ l) b.whole)) (literals_in_front before (b.item ++ rest) all (one_more P b.item rest (inr b.is_item) a))

  module _ (same : (bytes u v more rest : List ℕ) → R u → R v → bytes ≡ u ++ more → bytes ≡ v ++ rest → more ≡ rest) where
    pub made_behind : (bytes before more rest : List ℕ) → IsCutBefore 38 bytes before more → Begins R more rest → AreMadeOf P bytes → AreMadeOf P rest
    made_behind bytes before more rest cut b a = by cut.ends
      where
        by : (more ≡ []) ⊎ ((after : List ℕ) × (more ≡ 38 ∷ after)) → AreMadeOf P rest
        by (inl e) = absurd (some (reference_inner 38 b.item ampersand_is_mark (are_references b.item b.is_item)).whole)
          where
            some : {inner : List ℕ} → b.item ≡ 38 ∷ inner → ⊥
            some f = let g : [] ≡ b.item ++ rest = sym e ∙ b.whole in let h = ap (λ l. l ++ rest) f in cc
        by (inr e) =
            let c = cut_at_reference before e.0 (by_holds 38 before cut.free) (subst (λ (l : List ℕ). AreMadeOf P l) (cut.whole ∙ ap (λ l. before ++ l) e.1) a) in
            subst (λ (l : List ℕ). AreMadeOf P l) (same more c.reference b.item c.rest rest c.is_reference b.is_item (e.1 ∙ c.whole) b.whole) c.are_pieces
