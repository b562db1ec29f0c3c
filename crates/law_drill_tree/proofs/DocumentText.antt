-- The text of a drill's document, production by production.
use Rattle.std.specs.Prelude.{codes, decimal}
use Rattle.std.proofs.Common.{List, [], ap, append-nil, arith, inl, length, not, refl, suc, sym, true, zero, ℕ, ◌&&◌, ◌*◌, ◌++◌, ◌+◌, ◌<◌, ◌%◌, ◌^◌, ◌∙◌, ◌∷◌, ◌≡◌, ◌≢◌, ◌≤◌}
use Rattle.std.specs.Prelude.{nat_lt, ◌==◌}
use Rattle.std.specs.List.{list_all}
use Rattle.std.proofs.lemmas.Bool.{and_from, and_parts, ltb-true}
use Rattle.std.proofs.lemmas.Fmt.{decimal_by_steps, length-decimal-le}
use Rattle.std.proofs.lemmas.List.{append_assoc, length-append}
use Rattle.std.proofs.lemmas.List.Folds.{list_all-append}
use Rattle.std.proofs.lemmas.Str.{encode_ascii}
use Rattle.pv_chars.specs.Fronts.{ContainsBytes}
use Rattle.pv_chars.specs.Units.{is_literal, is_lone, is_simple, units_in}
use Rattle.pv_drill.specs.Drill.{drill_text, section_text, sections}
use Rattle.pv_read.specs.Grammar.{IsDocumentText, SpellsContent, SpellsNode}
use Rattle.pv_read.specs.Meaning.{MAX_DOC_BYTES}
use Rattle.pv_read.proofs.DocumentFacts.{data_are_units, data_joined}
use Rattle.pv_read.proofs.Pieces.{nothing, one_more}
use Rattle.pv_tree.specs.Attributes.{AreMadeOf, IsAttribute, IsAttributes, IsCharacterData, IsKnownReference, IsTextPiece}
use Rattle.pv_tree.specs.Marks.{blank_mark}
use Rattle.pv_tree.specs.Plain.{Forest, depth_of_all, forest_of, map_marks, map_marks_all, no_trees, text_node, tree}
use Rattle.pv_tree.specs.Prolog.{IsMisc, IsProlog}
use Rattle.pv_tree.specs.declared.nodes.Mark.{Mark}
use Rattle.law_drill_tree.specs.Sections.{Section, ahead, bare, bare_section, marked_doc, number_bytes, root_tree, trees, wrapped}
use Rattle.law_drill_tree.proofs.DtdText.{doc_named, head_named, sec_named}

-- characters of ASCII that stand for themselves
lone_piece : (b : ℕ) → is_lone b ≡ true → IsTextPiece IsKnownReference (b ∷ [])
lone_piece b e =
    let simple = (and_parts (is_simple b) (not (b == 93)) e).0 in
    let front = and_parts (is_literal b) (nat_lt b 128) (and_parts (is_literal b && nat_lt b 128) (not (b == 62)) simple).0 in
    inl record { code = b; is_literal = front.0; whole = sym (encode_ascii b (ltb-true b 128 front.1)) }

lone_pieces : (bytes : List ℕ) → list_all is_lone bytes ≡ true → AreMadeOf (IsTextPiece IsKnownReference) bytes
lone_pieces [] e = nothing (IsTextPiece IsKnownReference)
lone_pieces (b ∷ bs) e =
    let parts = and_parts (is_lone b) (list_all is_lone bs) e in
    one_more (IsTextPiece IsKnownReference) (b ∷ []) bs (lone_piece b parts.0) (lone_pieces bs parts.1)

no_close_mark : (bytes : List ℕ) → list_all is_lone bytes ≡ true → ContainsBytes bytes (codes "]]>") → ⊥
no_close_mark bytes e h =
    let whole : list_all is_lone (h.before ++ (codes "]]>" ++ h.after)) ≡ true = ap (list_all is_lone) (sym h.whole) ∙ e in
    let parts = and_parts (list_all is_lone h.before) (list_all is_lone (codes "]]>" ++ h.after)) (sym (list_all-append is_lone h.before (codes "]]>" ++ h.after)) ∙ whole) in
    let behind = parts.1 in cc

lone_data : (bytes : List ℕ) → bytes ≢ [] → list_all is_lone bytes ≡ true → IsCharacterData IsKnownReference bytes
lone_data bytes some e = record { some = some; are_pieces = lone_pieces bytes e; no_close_mark = no_close_mark bytes e }

-- digits are such
digit_lone : (d : ℕ) → d < 10 → is_lone (48 + d) ≡ true
digit_lone zero l = refl
digit_lone (suc zero) l = refl
digit_lone (suc (suc zero)) l = refl
digit_lone (suc (suc (suc zero))) l = refl
digit_lone (suc (suc (suc (suc zero)))) l = refl
digit_lone (suc (suc (suc (suc (suc zero))))) l = refl
digit_lone (suc (suc (suc (suc (suc (suc zero)))))) l = refl
digit_lone (suc (suc (suc (suc (suc (suc (suc zero))))))) l = refl
digit_lone (suc (suc (suc (suc (suc (suc (suc (suc zero)))))))) l = refl
digit_lone (suc (suc (suc (suc (suc (suc (suc (suc (suc zero))))))))) l = refl
digit_lone (suc (suc (suc (suc (suc (suc (suc (suc (suc (suc d)))))))))) l = absurd (omega arith)

one_lone : (b : ℕ) → is_lone b ≡ true → list_all is_lone (b ∷ []) ≡ true
one_lone b e = and_from (is_lone b) true e refl

more_lone : (ds : List ℕ) (b : ℕ) → list_all is_lone ds ≡ true → is_lone b ≡ true → list_all is_lone (ds ++ b ∷ []) ≡ true
more_lone ds b e f = list_all-append is_lone ds (b ∷ []) ∙ and_from (list_all is_lone ds) (list_all is_lone (b ∷ [])) e (one_lone b f)

decimal_lone : (k : ℕ) → k < 2 ^ 64 → list_all is_lone (decimal k) ≡ true
decimal_lone k small = decimal_by_steps (λ n ds. list_all is_lone ds ≡ true) (λ n l. one_lone (48 + n) (digit_lone n l))
    (λ n ds l h. more_lone ds (48 + n % 10) h (digit_lone (n % 10) (omega arith))) k small

number_lone : (k : ℕ) → k ≤ 20000 → list_all is_lone (number_bytes k) ≡ true
number_lone k most = and_from (is_lone 116) (list_all is_lone (decimal k)) refl (decimal_lone k (omega arith))

-- elements
no_attributes : IsAttributes IsKnownReference []
no_attributes = record { attributes = []; space = []; are_attributes = nothing (IsAttribute IsKnownReference); is_space = refl; whole = refl }

text_spelled : (bytes : List ℕ) → bytes ≢ [] → list_all is_lone bytes ≡ true → SpellsContent {M = Mark} (tree (text_node (units_in bytes)) no_trees) bytes
text_spelled bytes some e =
    let chars = lone_data bytes some e in
    (bytes, [], (chars, data_are_units bytes chars, sym (data_joined bytes chars)), refl, refl, sym (append-nil bytes))

ends_by : (w a b c : List ℕ) → w ++ a ++ b ++ [] ++ c ≡ w ++ (a ++ (b ++ c))
ends_by w a b c = rw (append-nil (w ++ a ++ b), append_assoc (w ++ a) b c, append_assoc w a (b ++ c)) refl

abbrev marked_sections : List Section → Forest Mark
marked_sections ss = map_marks_all (λ _. blank_mark) (forest_of (trees ss))

section_spelled : (k : ℕ) → k ≤ 20000 → SpellsNode (map_marks (λ _. blank_mark) (bare_section k)) (section_text k)
section_spelled k most = (
  number_bytes k,
  sec_named,
  no_attributes,
  refl,
  text_spelled (number_bytes k) (λ e. cc) (number_lone k most),
  ap (λ r. codes "<sec>t" ++ r) (sym (ends_by (decimal k) (codes "</") (codes "sec") (codes ">"))),
)

-- the texts of so many sections after section number k
abbrev ahead_text : ℕ → ℕ → List ℕ
ahead_text k zero = []
ahead_text k (suc m) = section_text (suc k) ++ ahead_text (suc k) m

sections_from : (k m n : ℕ) → k + m ≡ n → sections n ≡ sections k ++ ahead_text k m
sections_from k zero n e = let same : n ≡ k = omega arith in ap sections same ∙ sym (append-nil (sections k))
sections_from k (suc m) n e = sections_from (suc k) m n (omega arith) ∙ append_assoc (sections k) (section_text (suc k)) (ahead_text (suc k) m)

ahead_spelled : (k m : ℕ) → k + m ≤ 20000 → SpellsContent (marked_sections (ahead k m)) (ahead_text k m)
ahead_spelled k zero most = refl
ahead_spelled k (suc m) most = (section_text (suc k), ahead_text (suc k) m, section_spelled (suc k) (omega arith), tt, ahead_spelled (suc k) m (omega arith), refl)

sections_spelled : (n : ℕ) → n ≤ 20000 → SpellsContent (marked_sections (ahead 0 n)) (sections n)
sections_spelled n most = rw (sections_from 0 n n (omega arith)) (ahead_spelled 0 n (omega arith))

abbrev head_text : List ℕ
head_text = codes "<head>drill</head>"

root_spelled : (n : ℕ) → n ≤ 20000 → SpellsNode (map_marks (λ _. blank_mark) (root_tree (trees (ahead 0 n)))) (drill_text n)
root_spelled n most = (
  head_text ++ sections n,
  doc_named,
  no_attributes,
  refl,
  (head_text, sections n, (codes "drill", head_named, no_attributes, refl, text_spelled (codes "drill") (λ e. cc) refl, refl), tt, sections_spelled n most, refl),
  ap (λ r. codes "<doc><head>drill</head>" ++ r) (sym (ends_by (sections n) (codes "</") (codes "doc") (codes ">"))),
)

no_prolog : IsProlog (codes "doc") []
no_prolog = record {
  mark = [];
  declaration = [];
  misc = [];
  doctype = [];
  more_misc = [];
  is_mark = inl refl;
  is_declaration = inl refl;
  is_misc = nothing IsMisc;
  is_doctype = inl refl;
  is_more_misc = nothing IsMisc;
  whole = refl;
}

-- limits
marked_depth : (ss : List Section) → depth_of_all (marked_sections ss) ≤ 2
marked_depth [] = omega arith
marked_depth (bare k ∷ ss) = omega (arith, marked_depth ss)
marked_depth (wrapped k ∷ ss) = omega (arith, marked_depth ss)

section_length : (k : ℕ) → k ≤ 20000 → length (section_text k) ≤ 17
section_length k most = omega (arith, length-append (decimal k) (codes "</sec>"), length-decimal-le 5 k (omega arith) (omega arith) (omega arith))

ahead_length : (k m : ℕ) → k + m ≤ 20000 → length (ahead_text k m) ≤ 17 * m
ahead_length k zero most = omega arith
ahead_length k (suc m) most = omega (arith, length-append (section_text (suc k)) (ahead_text (suc k) m), section_length (suc k) (omega arith), ahead_length (suc k) m (omega arith))

drill_length : (n : ℕ) → n ≤ 20000 → length (drill_text n) ≤ MAX_DOC_BYTES
drill_length n most =
    let same = ap length (sections_from 0 n n (omega arith)) in
    omega (arith, length-append (sections n) (codes "</doc>"), same, ahead_length 0 n (omega arith))

pub drill_document_text : (n : ℕ) → n ≤ 20000 → IsDocumentText (codes "doc") (drill_text n) (marked_doc (trees (ahead 0 n)))
drill_document_text n most = record {
  spelled = record {
    element = drill_text n;
    is_prolog = no_prolog;
    is_element = tt;
    is_root = root_spelled n most;
    is_epilog = nothing IsMisc;
    whole = sym (append-nil (drill_text n));
  };
  shallow = omega (arith, marked_depth (ahead 0 n));
  few_bytes = drill_length n most;
}
