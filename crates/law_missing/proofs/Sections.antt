-- The content models of the DTD of sections.
use Rattle.std.proofs.Common.{List, [], append-nil, arith, inl, inr, refl, ℕ, ◌++◌, ◌∷◌, ◌≡◌, ◌⊎◌}
use Rattle.std.specs.List.{AllByRecursion}
use Rattle.pv_model.specs.Plain.{choice, empty, mixed, name, named, no_parts, opt, part, plus, seq, star}
use Rattle.pv_model.specs.Models.{Allows, Matches, Rounds, no_round, round}
use Rattle.pv_missing.specs.Covers.{Covers, cover_none}
use Rattle.pv_dtd.specs.Proper.{IsProperDtd}
use Rattle.pv_dtd.specs.Productive.{IsProductive}
use Rattle.law_missing.specs.Dtds.{doc_model, sec_model, sections_dtd}
use Rattle.pv_missing.proofs.LeftOutNames.{possible_productive}
use Rattle.pv_dtd.proofs.ProperDtds.{proper_dtd}
use Rattle.law_missing.proofs.RowTools.{alone_productive, new_before, possible_with}

pub proper_sections : IsProperDtd sections_dtd
proper_sections = proper_dtd sections_dtd refl (omega arith) refl

-- a head and one or more secs
rounds_same : (y : ℕ) (w : List ℕ) → Rounds (λ v. v ≡ y ∷ []) w → AllByRecursion (λ x. x ≡ y) w
rounds_same y w no_round = tt
rounds_same y w (round u v _ e f r) = let i : w ≡ (y ∷ []) ++ v = rw f at e in rw i (refl, rounds_same y v r)

pub doc_words : (ws : List ℕ) → Matches (seq (part (name 1) (part (plus (name 2)) no_parts))) ws → (b : List ℕ) × (ws ≡ 1 ∷ 2 ∷ b) × AllByRecursion (λ x. x ≡ 2) b
doc_words ws (u, v, e, f, (u2, v2, e2, (p, q, e3, f3, r), z)) = (q, rw (f, e2, e3, f3, z, append-nil q) at e, rounds_same 2 q r)

abbrev pub IsParagraphOrList : ℕ → Type 0
IsParagraphOrList x = (x ≡ 4) ⊎ (x ≡ 7)

choice_round : (u v : List ℕ) → Matches (choice (part (name 4) (part (name 7) no_parts))) u → AllByRecursion IsParagraphOrList v → AllByRecursion IsParagraphOrList (u ++ v)
choice_round u v (inl e) a = rw e (inl refl, a)
choice_round u v (inr (inl e)) a = rw e (inr refl, a)
choice_round u v (inr (inr e)) a = absurd e

choice_rounds : (w : List ℕ) → Rounds (Matches (choice (part (name 4) (part (name 7) no_parts)))) w → AllByRecursion IsParagraphOrList w
choice_rounds w no_round = tt
choice_rounds w (round u v _ e m r) = rw e (choice_round u v m (choice_rounds v r))

-- a title or none, and paragraphs and lists
pub data SecWords (ws : List ℕ) : Type 0 where
  no_title : AllByRecursion IsParagraphOrList ws → SecWords ws
  with_title : (b : List ℕ) → ws ≡ 3 ∷ b → AllByRecursion IsParagraphOrList b → SecWords ws

pub sec_words : (ws : List ℕ) → Matches (seq (part (opt (name 3)) (part (star (choice (part (name 4) (part (name 7) no_parts)))) no_parts))) ws → SecWords ws
sec_words ws (u, v, e, inl f, (u2, v2, e2, r, z)) = no_title (let i : ws ≡ u2 = rw (f, e2, z, append-nil u2) at e in rw i (choice_rounds u2 r))
sec_words ws (u, v, e, inr f, (u2, v2, e2, r, z)) = with_title u2 (rw (f, e2, z, append-nil u2) at e) (choice_rounds u2 r)

-- what the models allow
pub doc_two : Allows 9 doc_model (named 1 ∷ named 2 ∷ [])
doc_two = (1 ∷ 2 ∷ [], refl, (1 ∷ [], 2 ∷ [], refl, refl, (2 ∷ [], [], refl, (2 ∷ [], [], refl, refl, no_round), refl)))

pub doc_three : Allows 9 doc_model (named 1 ∷ named 2 ∷ named 2 ∷ [])
doc_three = (1 ∷ 2 ∷ 2 ∷ [], refl, (1 ∷ [], 2 ∷ 2 ∷ [], refl, refl, (2 ∷ 2 ∷ [], [], refl, (2 ∷ [], 2 ∷ [], refl, refl, round (2 ∷ []) [] (2 ∷ []) refl refl no_round), refl)))

pub sec_none : Allows 9 sec_model []
sec_none = ([], refl, ([], [], refl, inl refl, ([], [], refl, no_round, refl)))

pub sec_paragraph : Allows 9 sec_model (named 4 ∷ [])
sec_paragraph = (4 ∷ [], refl, ([], 4 ∷ [], refl, inl refl, (4 ∷ [], [], refl, round (4 ∷ []) [] (4 ∷ []) refl (inl refl) no_round, refl)))

pub sec_title : Allows 9 sec_model (named 3 ∷ [])
sec_title = (3 ∷ [], refl, (3 ∷ [], [], refl, inr refl, ([], [], refl, no_round, refl)))

pub sec_title_paragraphs : Allows 9 sec_model (named 3 ∷ named 4 ∷ named 4 ∷ [])
sec_title_paragraphs = (3 ∷ 4 ∷ 4 ∷ [], refl, (3 ∷ [], 4 ∷ 4 ∷ [], refl, inr refl, (4 ∷ 4 ∷ [], [], refl, two, refl)))
  where
    two : Rounds (Matches (choice (part (name 4) (part (name 7) no_parts)))) (4 ∷ 4 ∷ [])
    two = round (4 ∷ []) (4 ∷ []) (4 ∷ 4 ∷ []) refl (inl refl) (round (4 ∷ []) [] (4 ∷ []) refl (inl refl) no_round)

-- productive names
pub head_good : IsProductive sections_dtd 1
head_good = alone_productive sections_dtd 1 (mixed []) refl tt

pub sec_good : IsProductive sections_dtd 2
sec_good = alone_productive sections_dtd 2 sec_model refl sec_none

pub title_good : IsProductive sections_dtd 3
title_good = alone_productive sections_dtd 3 (mixed []) refl tt

pub p_good : IsProductive sections_dtd 4
p_good = alone_productive sections_dtd 4 (mixed (5 ∷ 6 ∷ [])) refl tt

pub em_good : IsProductive sections_dtd 5
em_good = alone_productive sections_dtd 5 (mixed (5 ∷ [])) refl tt

pub br_good : IsProductive sections_dtd 6
br_good = alone_productive sections_dtd 6 empty refl refl

pub doc_good : IsProductive sections_dtd 0
doc_good = possible_productive sections_dtd proper_sections 0 2 [] (possible_with sections_dtd 0 2 doc_model (named 1 ∷ named 2 ∷ []) [] refl doc_two missing_both)
  where
    missing_both : Covers sections_dtd 2 (named 1 ∷ named 2 ∷ []) []
    missing_both = new_before sections_dtd 1 0 1 (named 2 ∷ []) [] [] (possible_with sections_dtd 1 0 (mixed []) [] [] refl tt (cover_none 0 refl))
        (new_before sections_dtd 2 0 0 [] [] [] (possible_with sections_dtd 2 0 sec_model [] [] refl sec_none (cover_none 0 refl)) (cover_none 0 refl))
