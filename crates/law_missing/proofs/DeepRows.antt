-- The rows on the DTD of sections with deeper documents.
use Rattle.std.specs.Prelude.{codes}
use Rattle.std.proofs.Common.{List, Some, [], append-nil, arith, refl, suc, zero, ℕ, ◌++◌, ◌∷◌, ◌≡◌}
use Rattle.std.specs.List.{AllByRecursion}
use Rattle.pv_model.specs.Plain.{empty, mixed, named, text}
use Rattle.pv_model.specs.Models.{Allows, IsOfMixed}
use Rattle.pv_dtd.specs.Plain.{model_of, number_of}
use Rattle.pv_tree.specs.Lists.{IsOwnValid, IsRootList, an_element, lists_at, the_document}
use Rattle.pv_tree.specs.Plain.{Forest, forest_of, no_trees, tree}
use Rattle.pv_tree.specs.Words.{word_of}
use Rattle.pv_missing.specs.Covers.{Covers, cover_kept, cover_none, cover_text}
use Rattle.law_missing.specs.Documents.{blank_in_br, chars, completed_letter, letter, nested_em, tag}
use Rattle.law_missing.specs.Dtds.{doc_model, sec_model, sections_dtd}
use Rattle.law_missing.specs.Rows.{BlankRow, CompletedRow, DeepRow, LetterRow}
use Rattle.pv_tree.specs.Units.{HasUnits}
use Rattle.pv_missing.specs.Verdicts.{AreProductiveKids, IsLiveBy, IsVerdict}
use Rattle.law_missing.proofs.RowTools.{impossible_at, needs, valid_row}
use Rattle.law_missing.proofs.SectionRows.{br_name, doc_name, doc_own, em_name, head_name, in_paragraph, mixed_row, p_name, possible_sec, sec_name, title_name}
use Rattle.law_missing.proofs.Sections.{br_good, doc_two, em_good, head_good, p_good, proper_sections, sec_paragraph, sec_title_paragraphs, title_good}
use Rattle.pv_missing.proofs.Verdict.{own_live}
use Rattle.pv_tree.specs.declared.nodes.Verdict.TheVariants as verdict

abbrev br_kids : Forest Unit
br_kids = forest_of (chars (codes " ") ∷ [])

abbrev p_kids : Forest Unit
p_kids = forest_of (tag (codes "br") (chars (codes " ") ∷ []) ∷ [])

abbrev sec_kids : Forest Unit
sec_kids = forest_of (tag (codes "p") (tag (codes "br") (chars (codes " ") ∷ []) ∷ []) ∷ [])

abbrev doc_kids : Forest Unit
doc_kids = forest_of (tag (codes "head") [] ∷ tag (codes "sec") (tag (codes "p") (tag (codes "br") (chars (codes " ") ∷ []) ∷ []) ∷ []) ∷ [])

doc_live : IsLiveBy sections_dtd (codes "doc") (an_element (codes "doc")) doc_kids
doc_live = own_live sections_dtd (codes "doc") (an_element (codes "doc")) doc_kids
    (record { number = 0; is_owner = refl; model = doc_model; is_model = refl; no_kids = λ z. absurd cc; allowed = doc_two }) doc_name (head_name, (sec_name, tt))

head_live : IsLiveBy {M = Unit} sections_dtd (codes "doc") (an_element (codes "head")) no_trees
head_live = own_live sections_dtd (codes "doc") (an_element (codes "head")) no_trees
    (record { number = 1; is_owner = refl; model = mixed []; is_model = refl; no_kids = λ z. absurd cc; allowed = tt }) head_name tt

sec_live : IsLiveBy sections_dtd (codes "doc") (an_element (codes "sec")) sec_kids
sec_live = own_live sections_dtd (codes "doc") (an_element (codes "sec")) sec_kids
    (record { number = 2; is_owner = refl; model = sec_model; is_model = refl; no_kids = λ z. absurd cc; allowed = sec_paragraph }) sec_name (p_name, tt)

p_live : IsLiveBy sections_dtd (codes "doc") (an_element (codes "p")) p_kids
p_live = own_live sections_dtd (codes "doc") (an_element (codes "p")) p_kids
    (record { number = 4; is_owner = refl; model = mixed (5 ∷ 6 ∷ []); is_model = refl; no_kids = λ z. absurd cc; allowed = ((1, omega arith, refl), tt) }) p_name (br_name, tt)

-- a blank in an EMPTY element
br_impossible : IsLiveBy sections_dtd (codes "doc") (an_element (codes "br")) br_kids → ⊥
br_impossible l = let e : l.number ≡ 6 = let i = l.is_owner in cc in let k : model_of sections_dtd 6 ≡ Some empty → br_kids ≡ no_trees = rw e at l.no_kids in
    let f = k refl in cc

pub blank_in_empty_element_law : BlankRow
blank_in_empty_element_law = impossible_at sections_dtd (codes "doc") proper_sections blank_in_br (0 ∷ 1 ∷ 0 ∷ 0 ∷ [])
    (record { rooted = refl; units = (tt, (((((λ e. absurd cc), tt), tt), tt), tt)) }) (record {
      before =
          record { path = []; owner = the_document; kids = tree blank_in_br no_trees } ∷
          record { path = 0 ∷ []; owner = an_element (codes "doc"); kids = doc_kids } ∷
          record { path = 0 ∷ 0 ∷ []; owner = an_element (codes "head"); kids = no_trees } ∷
          record { path = 0 ∷ 1 ∷ []; owner = an_element (codes "sec"); kids = sec_kids } ∷
          record { path = 0 ∷ 1 ∷ 0 ∷ []; owner = an_element (codes "p"); kids = p_kids } ∷ [];
      list = record { path = 0 ∷ 1 ∷ 0 ∷ 0 ∷ []; owner = an_element (codes "br"); kids = br_kids };
      after = [];
      is_split = refl;
      all_before = (own_live sections_dtd (codes "doc") the_document (tree blank_in_br no_trees) (refl, refl) tt (doc_name, tt), (doc_live, (head_live, (sec_live, (p_live, tt)))));
      is_not = br_impossible;
      is_path = refl;
    })

-- em elements one inside another
nested_word : (n : ℕ) (r : Forest Unit) → word_of sections_dtd (tree (nested_em n) r) ≡ named 5 ∷ word_of sections_dtd r
nested_word zero r = refl
nested_word (suc n) r = refl

nested_name : (n : ℕ) → AreProductiveKids sections_dtd (tree (nested_em n) no_trees)
nested_name zero = (em_name, tt)
nested_name (suc n) = (em_name, tt)

em_verdict : (path : List ℕ) (k : Forest Unit) → AllByRecursion (IsOfMixed (5 ∷ [])) (word_of sections_dtd k) → AreProductiveKids sections_dtd k →
    IsVerdict sections_dtd (codes "em") (record { path = path; owner = an_element (codes "em"); kids = k }) verdict.Valid
em_verdict path k a q = (own_live sections_dtd (codes "em") (an_element (codes "em")) k own em_name q, own)
  where
    own : IsOwnValid sections_dtd (number_of sections_dtd (codes "em")) k
    own = record { number = 5; is_owner = refl; model = mixed (5 ∷ []); is_model = refl; no_kids = λ z. absurd cc; allowed = a }

all_valid : (n : ℕ) (path : List ℕ) → AllByRecursion (λ list. IsVerdict sections_dtd (codes "em") list verdict.Valid) (lists_at path (nested_em n))
all_valid zero path = (em_verdict path no_trees tt tt, tt)
all_valid (suc n) path = (
  em_verdict path (tree (nested_em n) no_trees) (rw (nested_word n no_trees) ((0, omega arith, refl), tt)) (nested_name n),
  (rw (append-nil (lists_at (path ++ 0 ∷ []) (nested_em n))) (all_valid n (path ++ 0 ∷ []))),
)

root_verdict : (n : ℕ) → IsVerdict sections_dtd (codes "em") (record { path = []; owner = the_document; kids = tree (nested_em n) no_trees }) verdict.Valid
root_verdict n = (own_live sections_dtd (codes "em") the_document (tree (nested_em n) no_trees) (own n) tt (nested_name n), own n)
  where
    own : (n : ℕ) → IsRootList (codes "em") (tree (nested_em n) no_trees)
    own zero = (refl, refl)
    own (suc n) = (refl, refl)

pub valid_at_any_depth_law : DeepRow
valid_at_any_depth_law n = (root_verdict n, all_valid n (0 ∷ []))

-- the letter
letter_word : Covers sections_dtd 0 (text ∷ text ∷ text ∷ named 5 ∷ text ∷ named 6 ∷ []) (text ∷ text ∷ text ∷ named 5 ∷ text ∷ named 6 ∷ [])
letter_word = cover_text 0 _ _ (cover_text 0 _ _ (cover_text 0 _ _ (cover_kept 0 5 _ _ em_good (cover_text 0 _ _ (cover_kept 0 6 _ _ br_good (cover_none 0 refl))))))

pub letter_misses_p_law : LetterRow
letter_misses_p_law = needs sections_dtd (codes "doc") proper_sections letter (verdict.Valid ∷ verdict.Valid ∷ verdict.Valid ∷ verdict.Possible ∷ verdict.Valid ∷ verdict.Valid ∷ []) 1
    (record { rooted = refl; units = letter_units }) (
      0,
      1,
      refl,
      valid_row sections_dtd (codes "doc") _ (refl, refl) tt (doc_name, tt),
      (
        0,
        1,
        refl,
        doc_own _ _ refl (tt, (head_name, (tt, (sec_name, (tt, (tt, (tt, tt))))))),
        (
          0,
          1,
          refl,
          mixed_row _ _ (codes "head") _ 1 [] refl refl head_good (tt, tt) (tt, tt),
          (
            1,
            0,
            refl,
            possible_sec _ _ (text ∷ text ∷ named 5 ∷ text ∷ named 6 ∷ []) refl (in_paragraph (text ∷ text ∷ text ∷ named 5 ∷ text ∷ named 6 ∷ []) letter_word letter_allowed),
            (
              0,
              0,
              refl,
              mixed_row _ _ (codes "em") _ 5 (5 ∷ []) refl refl em_good (tt, tt) (tt, tt),
              (
                0,
                0,
                refl,
                valid_row sections_dtd (codes "doc") _ (record { number = 6; is_owner = refl; model = empty; is_model = refl; no_kids = λ z. refl; allowed = refl }) br_name tt,
                refl,
              ),
            ),
          ),
        ),
      ),
    )
  where
    letter_units : HasUnits letter
    letter_units = (
      (λ e. absurd cc),
      (
        ((λ e. absurd cc), tt),
        (
          (λ e. absurd cc),
          (
            (
              (λ e. absurd cc),
              (
                tt,
                (
                  (λ e. absurd cc),
                  ((((λ e. absurd cc), tt)), ((λ e. absurd cc), (tt, ((λ e. absurd cc), tt)))),
                ),
              ),
            ),
            ((λ e. absurd cc), (tt, ((λ e. absurd cc), tt))),
          ),
        ),
      ),
    )

    letter_allowed : Allows 9 (mixed (5 ∷ 6 ∷ [])) (text ∷ text ∷ text ∷ named 5 ∷ text ∷ named 6 ∷ [])
    letter_allowed = (tt, (tt, (tt, ((0, omega arith, refl), (tt, ((1, omega arith, refl), tt))))))

-- the completed letter
pub completed_letter_law : CompletedRow
completed_letter_law = needs sections_dtd (codes "doc") proper_sections completed_letter
    (verdict.Valid ∷ verdict.Valid ∷ verdict.Valid ∷ verdict.Valid ∷ verdict.Valid ∷ verdict.Valid ∷ verdict.Valid ∷ verdict.Valid ∷ verdict.Valid ∷ []) 0
    (record { rooted = refl; units = completed_units }) (
      0,
      0,
      refl,
      valid_row sections_dtd (codes "doc") _ (refl, refl) tt (doc_name, tt),
      (
        0,
        0,
        refl,
        doc_own _ _ refl (tt, (head_name, (tt, (sec_name, (tt, (tt, (tt, tt))))))),
        (
          0,
          0,
          refl,
          mixed_row _ _ (codes "head") _ 1 [] refl refl head_good (tt, tt) (tt, tt),
          (
            0,
            0,
            refl,
            valid_row sections_dtd (codes "doc") _
                (record {
                  number = 2;
                  is_owner = refl;
                  model = sec_model;
                  is_model = refl;
                  no_kids = λ z. absurd cc;
                  allowed = sec_title_paragraphs;
                }) sec_name
                (title_name, (p_name, (p_name, (tt, tt)))),
            (
              0,
              0,
              refl,
              mixed_row _ _ (codes "title") _ 3 [] refl refl title_good (tt, tt) (tt, tt),
              (
                0,
                0,
                refl,
                mixed_row _ _ (codes "p") _ 4 (5 ∷ 6 ∷ []) refl refl p_good (tt, (tt, (tt, tt))) (tt, (tt, (tt, tt))),
                (
                  0,
                  0,
                  refl,
                  mixed_row _ _ (codes "p") _ 4 (5 ∷ 6 ∷ []) refl refl p_good ((0, omega arith, refl), (tt, ((1, omega arith, refl), tt))) (em_name, (tt, (br_name, tt))),
                  (
                    0,
                    0,
                    refl,
                    mixed_row _ _ (codes "em") _ 5 (5 ∷ []) refl refl em_good (tt, tt) (tt, tt),
                    (
                      0,
                      0,
                      refl,
                      valid_row sections_dtd (codes "doc") _ (record { number = 6; is_owner = refl; model = empty; is_model = refl; no_kids = λ z. refl; allowed = refl }) br_name tt,
                      refl,
                    ),
                  ),
                ),
              ),
            ),
          ),
        ),
      ),
    )
  where
    completed_units : HasUnits completed_letter
    completed_units = (
      (λ e. absurd cc),
      (
        ((λ e. absurd cc), tt),
        (
          (λ e. absurd cc),
          (
            (
              ((λ e. absurd cc), tt),
              (
                ((λ e. absurd cc), (tt, ((λ e. absurd cc), tt))),
                ((((λ e. absurd cc), tt), ((λ e. absurd cc), (tt, tt))), ((λ e. absurd cc), tt)),
              ),
            ),
            ((λ e. absurd cc), (tt, ((λ e. absurd cc), tt))),
          ),
        ),
      ),
    )
