-- The verdicts of the lists of a drill's document.
use Rattle.std.specs.Prelude.{codes, decimal}
use Rattle.std.proofs.Common.{List, Some, [], ap, append-nil, arith, cond, false, length, map, refl, suc, sym, true, ℕ, ◌++◌, ◌+◌, ◌∷◌, ◌≡◌, ◌≤◌, ◌≢◌}
use Rattle.std.proofs.lemmas.List.Sums.{sum_by-cons}
use Rattle.std.specs.List.{AllByRecursion}
use Rattle.pv_chars.specs.Texts.{has_data}
use Rattle.pv_chars.specs.Units.{cut_units, units_in}
use Rattle.pv_model.specs.Models.{Allows, Rounds, round, no_round}
use Rattle.pv_model.specs.Plain.{empty, named, text}
use Rattle.pv_dtd.specs.Plain.{model_of}
use Rattle.pv_tree.specs.Lists.{an_element, lists_from, lists_of, the_document}
use Rattle.pv_tree.specs.Plain.{Forest, Tree, forest_of, no_trees, text_node, tree}
use Rattle.pv_tree.specs.Units.{HaveUnits}
use Rattle.pv_tree.specs.View.{view}
use Rattle.pv_tree.specs.Words.{word_of}
use Rattle.pv_tree.specs.declared.nodes.Verdict.{Verdict}
use Rattle.pv_tree.specs.declared.nodes.Verdict.TheVariants as verdict
use Rattle.pv_missing.specs.Completions.{IsPotentiallyValid}
use Rattle.pv_missing.specs.Covers.{cover_none, cover_text}
use Rattle.pv_missing.specs.Proper.{IsProperDoc}
use Rattle.pv_missing.specs.Verdicts.{AreProductiveKids, AreVerdicts, IsLive, IsVerdict, is_possible, possible_in}
use Rattle.pv_missing.proofs.DocLists.{live_locality, verdict_locality}
use Rattle.law_missing.specs.Documents.{tag}
use Rattle.law_missing.specs.Dtds.{doc_model, sec_model, sections_dtd}
use Rattle.law_missing.proofs.RowTools.{valid_row}
use Rattle.law_missing.proofs.SectionRows.{doc_name, head_name, in_paragraph, mixed_row, p_name, possible_sec, sec_name}
use Rattle.law_missing.proofs.Sections.{head_good, p_good, proper_sections, sec_paragraph}
use Rattle.law_drill_tree.specs.Sections.{Section, all_verdicts, bare, drill_doc, head_tree, number_bytes, number_text, open_in, root_tree, trees, verdicts_in, with_around, wrapped}

-- a text that begins with a letter has data
letter_has : (r : List ℕ) (units : List (List ℕ)) → has_data ((116 ∷ r) ∷ units) ≡ true
letter_has [] units = refl
letter_has (b ∷ bs) units = refl

number_data : (bytes : List ℕ) → has_data (units_in (116 ∷ bytes)) ≡ true
unfolding units_in
number_data bytes = letter_has (cut_units false bytes).0 (cut_units false bytes).1

pub number_units : (bytes : List ℕ) → units_in (116 ∷ bytes) ≢ []
unfolding units_in
number_units bytes = λ e. cc

head_data : has_data (units_in (codes "drill")) ≡ true
unfolding units_in
head_data = refl

pub head_units : units_in (codes "drill") ≢ []
unfolding units_in
head_units = λ e. cc

word_where : (units : List (List ℕ)) → has_data units ≡ true → word_of {M = Unit} sections_dtd (tree (text_node units) no_trees) ≡ text ∷ []
word_where units e = rw e refl

abbrev text_kids : ℕ → Forest Unit
text_kids k = tree (number_text k) no_trees

number_word : (k : ℕ) → word_of sections_dtd (text_kids k) ≡ text ∷ []
number_word k = word_where (units_in (number_bytes k)) (number_data (decimal k))

-- the verdict of each list
abbrev Judged : List ℕ → List ℕ → Forest Unit → Verdict → Type 0
Judged path x kids v = IsVerdict sections_dtd (codes "doc") (record { path = path; owner = an_element x; kids = kids }) v

bare_judged : (path : List ℕ) (k : ℕ) → Judged path (codes "sec") (text_kids k) verdict.Possible
bare_judged path k = (possible_sec path (text_kids k) [] (number_word k) (in_paragraph (text ∷ []) (cover_text 0 [] [] (cover_none 0 refl)) (tt, tt))).judged

wrapped_judged : (path : List ℕ) (k : ℕ) → Judged path (codes "sec") (tree (tag (codes "p") (number_text k ∷ [])) no_trees) verdict.Valid
wrapped_judged path k = (valid_row sections_dtd (codes "doc") (record { path = path; owner = an_element (codes "sec"); kids = tree (tag (codes "p") (number_text k ∷ [])) no_trees })
    (record { number = 2; is_owner = refl; model = sec_model; is_model = refl; no_kids = λ z. absurd cc; allowed = sec_paragraph }) sec_name (p_name, tt)).judged

paragraph_judged : (path : List ℕ) (k : ℕ) → Judged path (codes "p") (text_kids k) verdict.Valid
paragraph_judged path k = (mixed_row (codes "doc") path (codes "p") (text_kids k) 4 (5 ∷ 6 ∷ []) refl refl p_good (rw (number_word k) (tt, tt)) (tt, tt)).judged

head_judged : (path : List ℕ) → Judged path (codes "head") (tree (text_node (units_in (codes "drill"))) no_trees) verdict.Valid
head_judged path = (mixed_row (codes "doc") path (codes "head") (tree (text_node (units_in (codes "drill"))) no_trees) 1 [] refl refl head_good
    (rw (word_where (units_in (codes "drill")) head_data) (tt, tt)) (tt, tt)).judged

-- the list of the root
abbrev twos : List Section → List ℕ
twos [] = []
twos (s ∷ ss) = 2 ∷ twos ss

abbrev section_kids : List Section → Forest Unit
section_kids ss = forest_of (trees ss)

sections_word : (ss : List Section) → word_of sections_dtd (section_kids ss) ≡ map named (twos ss)
sections_word [] = refl
sections_word (bare k ∷ ss) = ap (λ w. named 2 ∷ w) (sections_word ss)
sections_word (wrapped k ∷ ss) = ap (λ w. named 2 ∷ w) (sections_word ss)

rounds : (ss : List Section) → Rounds (λ w. w ≡ 2 ∷ []) (twos ss)
rounds [] = no_round
rounds (s ∷ ss) = round (2 ∷ []) (twos ss) (2 ∷ twos ss) refl refl (rounds ss)

sections_allowed : (s : Section) (ss : List Section) → Allows 9 doc_model (map named (1 ∷ 2 ∷ twos ss))
sections_allowed s ss = (1 ∷ 2 ∷ twos ss, refl, (1 ∷ [], 2 ∷ twos ss, refl, refl, (2 ∷ twos ss, [], sym (append-nil (2 ∷ twos ss)), (2 ∷ [], twos ss, refl, refl, rounds ss), refl)))

productive_sections : (ss : List Section) → AreProductiveKids sections_dtd (section_kids ss)
productive_sections [] = tt
productive_sections (bare k ∷ ss) = (sec_name, productive_sections ss)
productive_sections (wrapped k ∷ ss) = (sec_name, productive_sections ss)

abbrev root_kids : List Section → Forest Unit
root_kids ss = tree head_tree (section_kids ss)

root_list_judged : (path : List ℕ) (s : Section) (ss : List Section) → Judged path (codes "doc") (root_kids (s ∷ ss)) verdict.Valid
root_list_judged path s ss =
    let e = ap (λ w. named 1 ∷ w) (sections_word (s ∷ ss)) in
    (valid_row sections_dtd (codes "doc") (record { path = path; owner = an_element (codes "doc"); kids = root_kids (s ∷ ss) })
    (record { number = 0; is_owner = refl; model = doc_model; is_model = refl; no_kids = λ z. absurd cc; allowed = rw e (sections_allowed s ss) })
    doc_name (head_name, productive_sections (s ∷ ss))).judged

document_judged : (ts : List (Tree Unit)) → IsVerdict sections_dtd (codes "doc") (record { path = []; owner = the_document; kids = tree (root_tree ts) no_trees }) verdict.Valid
document_judged ts = (valid_row sections_dtd (codes "doc") (record { path = []; owner = the_document; kids = tree (root_tree ts) no_trees }) (refl, refl) tt (doc_name, tt)).judged

-- the verdicts of all lists
sections_judged : (path : List ℕ) (i : ℕ) (ss : List Section) → AreVerdicts sections_dtd (codes "doc") (lists_from path i (section_kids ss)) (verdicts_in ss)
sections_judged path i [] = refl
sections_judged path i (bare k ∷ ss) = (verdict.Possible, verdicts_in ss, refl, bare_judged (path ++ i ∷ []) k, sections_judged path (suc i) ss)
sections_judged path i (wrapped k ∷ ss) = (
  verdict.Valid,
  verdict.Valid ∷ verdicts_in ss,
  refl,
  wrapped_judged (path ++ i ∷ []) k,
  (verdict.Valid, verdicts_in ss, refl, paragraph_judged ((path ++ i ∷ []) ++ 0 ∷ []) k, sections_judged path (suc i) ss),
)

pub all_judged : (ss : List Section) → 1 ≤ length ss → AreVerdicts sections_dtd (codes "doc") (lists_of (drill_doc (trees ss))) (all_verdicts ss)
all_judged [] some = absurd (omega arith)
all_judged (s ∷ ss) some = (
  verdict.Valid,
  verdict.Valid ∷ verdict.Valid ∷ verdicts_in (s ∷ ss),
  refl,
  document_judged (trees (s ∷ ss)),
  (
    verdict.Valid,
    verdict.Valid ∷ verdicts_in (s ∷ ss),
    refl,
    root_list_judged (0 ∷ []) s ss,
    (verdict.Valid, verdicts_in (s ∷ ss), refl, head_judged (0 ∷ 0 ∷ []), sections_judged (0 ∷ []) 1 (s ∷ ss)),
  ),
)

-- how many of them are Possible
count_more : (v : Verdict) (vs : List Verdict) → possible_in (v ∷ vs) ≡ cond (is_possible v) 1 0 + possible_in vs
count_more v vs = sum_by-cons (λ x. cond (is_possible x) 1 0) v vs

possible_sections : (ss : List Section) → possible_in (verdicts_in ss) ≡ open_in ss
possible_sections [] = refl
possible_sections (bare k ∷ ss) = omega (arith, count_more verdict.Possible (verdicts_in ss), possible_sections ss)
possible_sections (wrapped k ∷ ss) = omega (arith, count_more verdict.Valid (verdict.Valid ∷ verdicts_in ss), count_more verdict.Valid (verdicts_in ss), possible_sections ss)

pub all_possible : (ss : List Section) → possible_in (all_verdicts ss) ≡ open_in ss
all_possible ss = omega (
  arith,
  count_more verdict.Valid (verdict.Valid ∷ verdict.Valid ∷ verdicts_in ss),
  count_more verdict.Valid (verdict.Valid ∷ verdicts_in ss),
  count_more verdict.Valid (verdicts_in ss),
  possible_sections ss,
)

-- none is Impossible
bearable : (ss : List Section) → AllByRecursion (λ v. v ≢ verdict.Impossible) (verdicts_in ss)
bearable [] = tt
bearable (bare k ∷ ss) = ((λ e. cc), bearable ss)
bearable (wrapped k ∷ ss) = ((λ e. cc), ((λ e. cc), bearable ss))

section_units : (ss : List Section) → HaveUnits (section_kids ss)
section_units [] = tt
section_units (bare k ∷ ss) = ((number_units (decimal k), tt), section_units ss)
section_units (wrapped k ∷ ss) = (((number_units (decimal k), tt), tt), section_units ss)

pub proper_doc : (ss : List Section) → IsProperDoc (drill_doc (trees ss))
proper_doc ss = record { rooted = refl; units = ((head_units, tt), section_units ss) }

pub doc_possible : (ss : List Section) → 1 ≤ length ss → IsPotentiallyValid sections_dtd (codes "doc") (view (root_tree (trees ss)))
doc_possible ss some = (verdict_locality Unit sections_dtd (codes "doc") (drill_doc (trees ss)) (all_verdicts ss) proper_sections (proper_doc ss) (all_judged ss some)).1
    ((λ e. cc), ((λ e. cc), ((λ e. cc), bearable ss)))

-- a text can't stand in a br
br_dead : (path : List ℕ) (k : ℕ) → IsLive sections_dtd (codes "doc") (record { path = path; owner = an_element (codes "br"); kids = text_kids k }) → ⊥
br_dead path k l =
    let e : l.number ≡ 6 = let i = l.is_owner in cc in
    let m : model_of sections_dtd l.number ≡ Some empty = rw e refl in
    let z = l.no_kids m in cc

br_among : (path : List ℕ) (i : ℕ) (front : List Section) (k : ℕ) (back : List Section) →
    AllByRecursion (IsLive sections_dtd (codes "doc")) (lists_from path i
    (forest_of (with_around (codes "br") front k back))) → ⊥
br_among path i [] k back all = br_dead ((path ++ i ∷ []) ++ 0 ∷ []) k all.1.0
br_among path i (bare j ∷ front) k back all = br_among path (suc i) front k back all.1
br_among path i (wrapped j ∷ front) k back all = br_among path (suc i) front k back all.1.1

br_units : (front : List Section) (k : ℕ) (back : List Section) → HaveUnits (forest_of (with_around (codes "br") front k back))
br_units [] k back = (((number_units (decimal k), tt), tt), section_units back)
br_units (bare j ∷ front) k back = ((number_units (decimal j), tt), br_units front k back)
br_units (wrapped j ∷ front) k back = (((number_units (decimal j), tt), tt), br_units front k back)

pub br_proper : (front : List Section) (k : ℕ) (back : List Section) → IsProperDoc (drill_doc (with_around (codes "br") front k back))
br_proper front k back = record { rooted = refl; units = ((head_units, tt), br_units front k back) }

pub br_impossible : (front : List Section) (k : ℕ) (back : List Section) → IsPotentiallyValid sections_dtd (codes "doc") (view (root_tree (with_around (codes "br") front k back))) → ⊥
br_impossible front k back v =
    let all = (live_locality Unit sections_dtd (codes "doc") (drill_doc (with_around (codes "br") front k back)) proper_sections (br_proper front k back)).0 v in
    br_among (0 ∷ []) 1 front k back all.1.1.1
