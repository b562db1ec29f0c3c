-- The rows on the DTD of sections.
use Rattle.std.specs.Prelude.{codes}
use Rattle.std.proofs.Common.{List, Some, [], ap, append-nil, arith, map, refl, subst, ℕ, ◌∷◌, ◌≡◌, ◌≤◌}
use Rattle.std.specs.List.{AllByRecursion}
use Rattle.pv_model.specs.Plain.{PlainToken, mixed, name, named, no_parts, part, plus, seq, text}
use Rattle.pv_model.specs.Models.{Allows, IsOfMixed, Matches}
use Rattle.pv_dtd.specs.Plain.{model_of, number_of}
use Rattle.pv_tree.specs.Lists.{IsOwnValid, an_element, lists_from, the_document}
use Rattle.pv_tree.specs.Plain.{Forest, element, forest_of, no_trees, tagged, tree}
use Rattle.pv_tree.specs.Words.{word_of}
use Rattle.pv_missing.specs.Verdicts.{AreProductiveKids}
use Rattle.pv_missing.specs.Covers.{Covers, IsPossibleRootWith, IsPossibleWith, cover_kept}
use Rattle.pv_missing.specs.Covers.{cover_none, cover_text}
use Rattle.pv_missing.specs.MissingNumbers.{MissesInContent, MissesInRoot}
use Rattle.pv_dtd.specs.Productive.{IsProductive, IsProductiveName}
use Rattle.law_missing.specs.Documents.{comment_alone, em_alone, head_then_text, hello, p_alone, p_then_title, sec_then_head, sec_with, tag}
use Rattle.law_missing.specs.Dtds.{doc_model, sec_model, sections_dtd}
use Rattle.law_missing.specs.Rows.{CommentRow, EmRow, HeadRow, HeadTextRow, HelloRow, ParagraphRow, ReferenceRow, TitleRow}
use Rattle.pv_missing.proofs.DocLists.{live_misses_by}
use Rattle.law_missing.proofs.RowTools.{ListRow, impossible_at, needs, new_before, possible_row, possible_with, valid_row}
use Rattle.law_missing.proofs.SectionBounds.{doc_two_bound, em_bound, head_text_bound, no_late_head, root_bound, sec_bound, title_bound}
use Rattle.law_missing.proofs.Sections.{br_good, doc_good, doc_three, doc_two, doc_words, em_good, head_good, p_good, proper_sections, sec_good, sec_none, sec_paragraph, sec_title, title_good}
use Rattle.pv_missing.proofs.Verdict.{own_live}
use Rattle.pv_tree.specs.declared.nodes.Verdict.TheVariants as verdict

-- what is missing in words
head_none : IsPossibleWith sections_dtd 1 0 []
head_none = possible_with sections_dtd 1 0 (mixed []) [] [] refl tt (cover_none 0 refl)

head_text : IsPossibleWith sections_dtd 1 0 (text ∷ [])
head_text = possible_with sections_dtd 1 0 (mixed []) (text ∷ []) (text ∷ []) refl (tt, tt) (cover_text 0 [] [] (cover_none 0 refl))

sec_nothing : IsPossibleWith sections_dtd 2 0 []
sec_nothing = possible_with sections_dtd 2 0 sec_model [] [] refl sec_none (cover_none 0 refl)

sec_p : IsPossibleWith sections_dtd 2 0 (named 4 ∷ [])
sec_p = possible_with sections_dtd 2 0 sec_model (named 4 ∷ []) (named 4 ∷ []) refl sec_paragraph (cover_kept 0 4 [] [] p_good (cover_none 0 refl))

sec_title_kept : IsPossibleWith sections_dtd 2 0 (named 3 ∷ [])
sec_title_kept = possible_with sections_dtd 2 0 sec_model (named 3 ∷ []) (named 3 ∷ []) refl sec_title (cover_kept 0 3 [] [] title_good (cover_none 0 refl))

-- a paragraph round all of the word
pub in_paragraph : (w : List PlainToken) → Covers sections_dtd 0 w w → Allows 9 (mixed (5 ∷ 6 ∷ [])) w → IsPossibleWith sections_dtd 2 1 w
in_paragraph w c a = possible_with sections_dtd 2 1 sec_model (named 4 ∷ []) w refl sec_paragraph (let e = append-nil w in
    rw e at (new_before sections_dtd 4 0 0 [] w [] (possible_with sections_dtd 4 0 (mixed (5 ∷ 6 ∷ [])) w w refl a c) (cover_none 0 refl)))

pub hello_word : IsPossibleWith sections_dtd 0 2 (text ∷ [])
hello_word = possible_with sections_dtd 0 2 doc_model (named 1 ∷ named 2 ∷ []) (text ∷ []) refl doc_two
    (new_before sections_dtd 1 0 1 (named 2 ∷ []) (text ∷ []) [] head_text (new_before sections_dtd 2 0 0 [] [] [] sec_nothing (cover_none 0 refl)))

head_text_word : IsPossibleWith sections_dtd 0 2 (named 1 ∷ text ∷ [])
head_text_word = possible_with sections_dtd 0 2 doc_model (named 1 ∷ named 2 ∷ []) (named 1 ∷ text ∷ []) refl doc_two
    (cover_kept 2 1 (named 2 ∷ []) (text ∷ []) head_good
    (new_before sections_dtd 2 1 0 [] (text ∷ []) [] (in_paragraph (text ∷ []) (cover_text 0 [] [] (cover_none 0 refl)) (tt, tt)) (cover_none 0 refl)))

comment_word : IsPossibleWith sections_dtd 0 2 []
comment_word = possible_with sections_dtd 0 2 doc_model (named 1 ∷ named 2 ∷ []) [] refl doc_two
    (new_before sections_dtd 1 0 1 (named 2 ∷ []) [] [] head_none (new_before sections_dtd 2 0 0 [] [] [] sec_nothing (cover_none 0 refl)))

em_word : IsPossibleWith sections_dtd 0 3 (named 5 ∷ [])
em_word = possible_with sections_dtd 0 3 doc_model (named 1 ∷ named 2 ∷ []) (named 5 ∷ []) refl doc_two
    (new_before sections_dtd 1 0 2 (named 2 ∷ []) [] (named 5 ∷ []) head_none
    (new_before sections_dtd 2 1 0 [] (named 5 ∷ []) [] (in_paragraph (named 5 ∷ []) (cover_kept 0 5 [] [] em_good (cover_none 0 refl)) ((0, omega arith, refl), tt)) (cover_none 0 refl)))

pub title_word : IsPossibleWith sections_dtd 0 3 (named 4 ∷ named 3 ∷ [])
title_word = possible_with sections_dtd 0 3 doc_model (named 1 ∷ named 2 ∷ named 2 ∷ []) (named 4 ∷ named 3 ∷ []) refl doc_three
    (new_before sections_dtd 1 0 2 (named 2 ∷ named 2 ∷ []) [] (named 4 ∷ named 3 ∷ []) head_none
    (new_before sections_dtd 2 0 1 (named 2 ∷ []) (named 4 ∷ []) (named 3 ∷ []) sec_p
    (new_before sections_dtd 2 0 0 [] (named 3 ∷ []) [] sec_title_kept (cover_none 0 refl))))

pub root_word : IsPossibleRootWith sections_dtd 0 3 (named 4 ∷ [])
root_word = new_before sections_dtd 0 2 0 [] (named 4 ∷ []) [] (possible_with sections_dtd 0 2 doc_model (named 1 ∷ named 2 ∷ []) (named 4 ∷ []) refl doc_two
    (new_before sections_dtd 1 0 1 (named 2 ∷ []) [] (named 4 ∷ []) head_none
    (new_before sections_dtd 2 0 0 [] (named 4 ∷ []) [] sec_p (cover_none 0 refl)))) (cover_none 0 refl)

-- names by their spelling
pub doc_name : IsProductiveName sections_dtd (codes "doc")
doc_name = record { number = 0; is_number = refl; productive = doc_good }

pub head_name : IsProductiveName sections_dtd (codes "head")
head_name = record { number = 1; is_number = refl; productive = head_good }

pub sec_name : IsProductiveName sections_dtd (codes "sec")
sec_name = record { number = 2; is_number = refl; productive = sec_good }

pub title_name : IsProductiveName sections_dtd (codes "title")
title_name = record { number = 3; is_number = refl; productive = title_good }

pub p_name : IsProductiveName sections_dtd (codes "p")
p_name = record { number = 4; is_number = refl; productive = p_good }

pub em_name : IsProductiveName sections_dtd (codes "em")
em_name = record { number = 5; is_number = refl; productive = em_good }

pub br_name : IsProductiveName sections_dtd (codes "br")
br_name = record { number = 6; is_number = refl; productive = br_good }

-- a list that elements are missing in
doc_misses : (k : Forest Unit) (n : ℕ) → IsPossibleWith sections_dtd 0 n (word_of sections_dtd k) → MissesInContent sections_dtd (codes "doc") k n
doc_misses k n p = record { number = 0; is_owner = refl; productive = doc_good; no_kids = λ e. absurd cc; possible = p }

doc_least : (k : Forest Unit) (n m : ℕ) → ((j : ℕ) → IsPossibleWith sections_dtd 0 j (word_of sections_dtd k) → n ≤ j) → MissesInContent sections_dtd (codes "doc") k m → n ≤ m
doc_least k n m f p = let e : p.number ≡ 0 = let i = p.is_owner in cc in f m (rw e at p.possible)

-- the model of doc allows no such word
not_own : (k : Forest Unit) → ((ws : List ℕ) → Matches (seq (part (name 1) (part (plus (name 2)) no_parts))) ws → word_of sections_dtd k ≡ map named ws → ⊥) →
    IsOwnValid sections_dtd (number_of sections_dtd (codes "doc")) k → ⊥
not_own k f o = let e : o.number ≡ 0 = let i = o.is_owner in cc in
    let m : model_of sections_dtd 0 ≡ Some o.model = rw e at o.is_model in let i : o.model ≡ doc_model = cc in
    let a : Allows 9 doc_model (word_of sections_dtd k) = subst (λ x. Allows 9 x (word_of sections_dtd k)) i o.allowed in f a.0 a.2 a.1

pub text_alone_law : HelloRow
text_alone_law = needs sections_dtd (codes "doc") proper_sections hello (verdict.Valid ∷ verdict.Possible ∷ []) 2 (record { rooted = refl; units = ((λ e. absurd cc), tt) }) (
  0,
  2,
  refl,
  valid_row sections_dtd (codes "doc") _ (refl, refl) tt (doc_name, tt),
  (
    2,
    0,
    refl,
    possible_row sections_dtd (codes "doc") _ 2 (doc_misses _ 2 hello_word) (λ m p. doc_least _ 2 m (λ j q. doc_two_bound j (text ∷ []) refl q) p)
        (not_own _ (λ ws m e. let f = doc_words ws m in absurd (let g = ap (map named) f.1 in cc))),
    refl,
  ),
)

doc_root : (k : Forest Unit) → ListRow sections_dtd (codes "doc") (record { path = []; owner = the_document; kids = tree (element (codes "doc") [] (tagged []) k tt) no_trees }) verdict.Valid 0
doc_root k = valid_row sections_dtd (codes "doc") (record { path = []; owner = the_document; kids = tree (element (codes "doc") [] (tagged []) k tt) no_trees }) (refl, refl) tt (doc_name, tt)

-- a list whose model is mixed
pub mixed_row : (root path x : List ℕ) (k : Forest Unit) (y : ℕ) (ys : List ℕ) → number_of sections_dtd x ≡ Some y → model_of sections_dtd y ≡ Some (mixed ys) → IsProductive sections_dtd y →
    AllByRecursion (IsOfMixed ys) (word_of sections_dtd k) → AreProductiveKids sections_dtd k →
    ListRow sections_dtd root (record { path = path; owner = an_element x; kids = k }) verdict.Valid 0
mixed_row root path x k y ys e f p a q = valid_row sections_dtd root (record { path = path; owner = an_element x; kids = k })
    (record { number = y; is_owner = e; model = mixed ys; is_model = f; no_kids = λ z. absurd cc; allowed = a }) (record { number = y; is_number = e; productive = p }) q

possible_doc : (k : Forest Unit) (path : List ℕ) (n : ℕ) → IsPossibleWith sections_dtd 0 n (word_of sections_dtd k) → ((j : ℕ) → IsPossibleWith sections_dtd 0 j (word_of sections_dtd k) → n ≤ j) →
    ((ws : List ℕ) → Matches (seq (part (name 1) (part (plus (name 2)) no_parts))) ws → word_of sections_dtd k ≡ map named ws → ⊥) →
    ListRow sections_dtd (codes "doc") (record { path = path; owner = an_element (codes "doc"); kids = k }) verdict.Possible n
possible_doc k path n p b f = possible_row sections_dtd (codes "doc") (record { path = path; owner = an_element (codes "doc"); kids = k }) n
    (doc_misses k n p) (λ m q. doc_least k n m b q) (not_own k f)

pub em_alone_law : EmRow
em_alone_law = needs sections_dtd (codes "doc") proper_sections em_alone (verdict.Valid ∷ verdict.Possible ∷ verdict.Valid ∷ []) 3 (record { rooted = refl; units = (((λ e. absurd cc), tt), tt) }) (
  0,
  3,
  refl,
  doc_root _,
  (
    3,
    0,
    refl,
    possible_doc _ _ 3 em_word em_bound (λ ws m e. let f = doc_words ws m in absurd (let g = ap (map named) f.1 in cc)),
    (0, 0, refl, mixed_row _ _ (codes "em") _ 5 (5 ∷ []) refl refl em_good (tt, tt) (tt, tt), refl),
  ),
)

pub text_behind_head_law : HeadTextRow
text_behind_head_law = needs sections_dtd (codes "doc") proper_sections head_then_text (verdict.Valid ∷ verdict.Possible ∷ verdict.Valid ∷ []) 2
    (record { rooted = refl; units = (((λ e. absurd cc), tt), ((λ e. absurd cc), tt)) }) (
      0,
      2,
      refl,
      doc_root _,
      (
        2,
        0,
        refl,
        possible_doc _ _ 2 head_text_word head_text_bound (λ ws m e. let f = doc_words ws m in absurd (let g = ap (map named) f.1 in cc)),
        (0, 0, refl, mixed_row _ _ (codes "head") _ 1 [] refl refl head_good (tt, tt) (tt, tt), refl),
      ),
    )

pub title_behind_p_law : TitleRow
title_behind_p_law = needs sections_dtd (codes "doc") proper_sections p_then_title (verdict.Valid ∷ verdict.Possible ∷ verdict.Valid ∷ verdict.Valid ∷ []) 3
    (record { rooted = refl; units = (((λ e. absurd cc), tt), (((λ e. absurd cc), tt), tt)) }) (
      0,
      3,
      refl,
      doc_root _,
      (
        3,
        0,
        refl,
        possible_doc _ _ 3 title_word title_bound (λ ws m e. let f = doc_words ws m in absurd (let g = ap (map named) f.1 in cc)),
        (
          0,
          0,
          refl,
          mixed_row _ _ (codes "p") _ 4 (5 ∷ 6 ∷ []) refl refl p_good (tt, tt) (tt, tt),
          (0, 0, refl, mixed_row _ _ (codes "title") _ 3 [] refl refl title_good (tt, tt) (tt, tt), refl),
        ),
      ),
    )

root_missing : MissesInRoot sections_dtd (codes "doc") (tree p_alone no_trees) 3
root_missing = record { number = 0; is_owner = refl; possible = root_word }

root_least : (m : ℕ) → MissesInRoot sections_dtd (codes "doc") (tree p_alone no_trees) m → 3 ≤ m
root_least m p = let e : p.number ≡ 0 = let i = p.is_owner in cc in root_bound m (rw e at p.possible)

pub missing_root_law : ParagraphRow
missing_root_law = needs sections_dtd (codes "doc") proper_sections p_alone (verdict.Possible ∷ verdict.Valid ∷ []) 3 (record { rooted = refl; units = ((λ e. absurd cc), tt) }) (
  3,
  0,
  refl,
  possible_row sections_dtd (codes "doc") (record { path = []; owner = the_document; kids = tree p_alone no_trees }) 3 root_missing root_least (λ v. let e = v.0 in cc),
  (0, 0, refl, mixed_row _ _ (codes "p") _ 4 (5 ∷ 6 ∷ []) refl refl p_good (tt, tt) (tt, tt), refl),
)

pub comment_is_nothing_law : CommentRow
comment_is_nothing_law = needs sections_dtd (codes "doc") proper_sections comment_alone (verdict.Valid ∷ verdict.Possible ∷ []) 2 (record { rooted = refl; units = (tt, ((λ e. absurd cc), tt)) }) (
  0,
  2,
  refl,
  doc_root _,
  (2, 0, refl, possible_doc _ _ 2 comment_word (λ j q. doc_two_bound j [] refl q) (λ ws m e. let f = doc_words ws m in absurd (let g = ap (map named) f.1 in cc)), refl),
)

-- a doc with a head and a sec
pub doc_own : (path : List ℕ) (k : Forest Unit) → word_of sections_dtd k ≡ named 1 ∷ named 2 ∷ [] → AreProductiveKids sections_dtd k →
    ListRow sections_dtd (codes "doc") (record { path = path; owner = an_element (codes "doc"); kids = k }) verdict.Valid 0
doc_own path k e q = valid_row sections_dtd (codes "doc") (record { path = path; owner = an_element (codes "doc"); kids = k })
    (record { number = 0; is_owner = refl; model = doc_model; is_model = refl; no_kids = λ z. absurd cc; allowed = rw e doc_two }) doc_name q

sec_misses : (k : Forest Unit) (n : ℕ) → IsPossibleWith sections_dtd 2 n (word_of sections_dtd k) → MissesInContent sections_dtd (codes "sec") k n
sec_misses k n p = record { number = 2; is_owner = refl; productive = sec_good; no_kids = λ e. absurd cc; possible = p }

sec_least : (k : Forest Unit) (w : List PlainToken) (m : ℕ) → word_of sections_dtd k ≡ text ∷ w → MissesInContent sections_dtd (codes "sec") k m → 1 ≤ m
sec_least k w m e p = let f : p.number ≡ 2 = let i = p.is_owner in cc in sec_bound m w (rw (e, f) at p.possible)

not_sec_own : (k : Forest Unit) (w : List PlainToken) → word_of sections_dtd k ≡ text ∷ w → IsOwnValid sections_dtd (number_of sections_dtd (codes "sec")) k → ⊥
not_sec_own k w e o = let f : o.number ≡ 2 = let i = o.is_owner in cc in
    let m : model_of sections_dtd 2 ≡ Some o.model = rw f at o.is_model in let i : o.model ≡ sec_model = cc in
    let a : Allows 9 sec_model (text ∷ w) = rw e at (subst (λ x. Allows 9 x (word_of sections_dtd k)) i o.allowed) in never a.0 a.1
  where
    never : (ws : List ℕ) → text ∷ w ≡ map named ws → ⊥
    never [] g = cc
    never (y ∷ ws) g = cc

pub possible_sec : (path : List ℕ) (k : Forest Unit) (w : List PlainToken) → word_of sections_dtd k ≡ text ∷ w → IsPossibleWith sections_dtd 2 1 (text ∷ w) →
    ListRow sections_dtd (codes "doc") (record { path = path; owner = an_element (codes "sec"); kids = k }) verdict.Possible 1
possible_sec path k w e p = possible_row sections_dtd (codes "doc") (record { path = path; owner = an_element (codes "sec"); kids = k }) 1
    (sec_misses k 1 (rw e p)) (λ m q. sec_least k w m e q) (not_sec_own k w e)

pub reference_to_blank_is_data_law : ReferenceRow
reference_to_blank_is_data_law = (
  needs sections_dtd (codes "doc") proper_sections (sec_with (codes "&#32;" ∷ [])) (verdict.Valid ∷ verdict.Valid ∷ verdict.Valid ∷ verdict.Possible ∷ []) 1
      (record { rooted = refl; units = (tt, (((λ e. absurd cc), tt), tt)) }) (
        0,
        1,
        refl,
        doc_root _,
        (
          0,
          1,
          refl,
          doc_own _ _ refl (head_name, (sec_name, tt)),
          (
            0,
            1,
            refl,
            mixed_row _ _ (codes "head") _ 1 [] refl refl head_good tt tt,
            (1, 0, refl, possible_sec _ _ [] refl (in_paragraph (text ∷ []) (cover_text 0 [] [] (cover_none 0 refl)) (tt, tt)), refl),
          ),
        ),
      ),
  needs sections_dtd (codes "doc") proper_sections (sec_with ((32 ∷ []) ∷ [])) (verdict.Valid ∷ verdict.Valid ∷ verdict.Valid ∷ verdict.Valid ∷ []) 0
      (record { rooted = refl; units = (tt, (((λ e. absurd cc), tt), tt)) }) (
        0,
        0,
        refl,
        doc_root _,
        (
          0,
          0,
          refl,
          doc_own _ _ refl (head_name, (sec_name, tt)),
          (
            0,
            0,
            refl,
            mixed_row _ _ (codes "head") _ 1 [] refl refl head_good tt tt,
            (
              0,
              0,
              refl,
              valid_row sections_dtd (codes "doc") _ (record { number = 2; is_owner = refl; model = sec_model; is_model = refl; no_kids = λ z. absurd cc; allowed = sec_none }) sec_name (tt, tt),
              refl,
            ),
          ),
        ),
      ),
)

-- impossible documents
pub head_behind_sec_law : HeadRow
head_behind_sec_law = impossible_at sections_dtd (codes "doc") proper_sections sec_then_head (0 ∷ []) (record { rooted = refl; units = (tt, (tt, tt)) }) (record {
  before = record { path = []; owner = the_document; kids = tree sec_then_head no_trees } ∷ [];
  list = record { path = 0 ∷ []; owner = an_element (codes "doc"); kids = forest_of (tag (codes "sec") [] ∷ tag (codes "head") [] ∷ []) };
  after = lists_from (0 ∷ []) 0 (forest_of (tag (codes "sec") [] ∷ tag (codes "head") [] ∷ []));
  is_split = refl;
  all_before = (own_live sections_dtd (codes "doc") the_document (tree sec_then_head no_trees) (refl, refl) tt (doc_name, tt), tt);
  is_not = λ l. let p = live_misses_by sections_dtd (codes "doc") (an_element (codes "doc")) (forest_of (tag (codes "sec") [] ∷ tag (codes "head") [] ∷ [])) l in
      let e : p.1.number ≡ 0 = let i = p.1.is_owner in cc in no_late_head p.0 (rw e at p.1.possible);
  is_path = refl;
})
