-- The line of an edit that applies to some document is read again.
use Rattle.std.proofs.Common.{◌≡◌, ℕ, ◌+◌, ◌/◌, ◌<◌, ◌≤◌, ◌⊎◌, inl, inr, List, [], ◌∷◌, ◌++◌, map, length, ◌||◌, Option, None, Bool, true, false, not}
use Rattle.std.proofs.Common.{nat_lt, refl, ap, subst, ◌∙◌, append_assoc, arith, codes, decimal}
use Rattle.std.proofs.lemmas.Bool.{and_parts, cases_lt, not-false}
use Rattle.std.proofs.lemmas.Bool.Decides.{nat_tests}
use Rattle.std.specs.List.{list_all, list_any}
use lib.Utf8.{encode, encodes, next}
use Rattle.pv_chars.proofs.NameLemmas.{name_is_run, IsName-is_name}
use Rattle.pv_chars.proofs.Utf8Lemmas.{one_byte, two_bytes, three_bytes, four_bytes}
use Rattle.pv_chars.specs.Characters.{is_name_char}
use Rattle.pv_edit.proofs.InverseLeads.{given-reason}
use Rattle.pv_edit.specs.GivenNames.{is_line_end, is_new_name, is_new_text, is_character_data}
use Rattle.pv_edit.specs.Reasons.{kids_at, lacks_element, lacks_list, lacks_node, lacks_text, reason_of, unless}
use Rattle.pv_edit.specs.declared.edits.Edit.{Edit}
use Rattle.pv_edit.specs.declared.edits.Edit.TheVariants.{Wrap, Insert, Unwrap, Rename, Split, Join, SetText, AddText, DelText}
use Rattle.pv_edit.specs.declared.reasons.Reason.{Reason}
use Rattle.pv_edit.specs.declared.reasons.Reason.TheVariants.{NoNode, NotElement, NotText, Range, BadName, BadText}
use Rattle.pv_tree.specs.Plain.{Tree}
use Rattle.pv_words.specs.Numbers.{AreNumbers}
use Rattle.pv_script.specs.Edits.{edit_text, numbers_in}
use Rattle.pv_script.specs.Laws.{EditsAreReadAgain}
use Rattle.pv_words.specs.Lines.{without_returns, with_byte_before, lines_of}
use Rattle.pv_words.specs.Paths.{path_text}
use Rattle.pv_words.specs.Words.{words}
use Rattle.pv_words.proofs.NumberWords.{decimal-free}
use Rattle.pv_words.proofs.PathWords.{path-free}
use Rattle.pv_words.proofs.RawLines.{raw_lines_of-line}
use Rattle.pv_words.proofs.FirstWords.{Free, Free-append, not-eq}

-- a byte of ASCII stands in the bytes of its own code point alone
code-free : (d c : ℕ) → d < 128 → (c ≡ d → ⊥) → Free d (encode c)
code-free d c low other = by (cases_lt c 128) (cases_lt c 2048) (cases_lt c 65536)
  where
    high : (x : ℕ) → 128 ≤ x → x ≡ d → ⊥
    high x more same = omega arith

    by : (c < 128) ⊎ (128 ≤ c) → (c < 2048) ⊎ (2048 ≤ c) → (c < 65536) ⊎ (65536 ≤ c) → Free d (encode c)
    by (inl h) _ _ = rw (one_byte c h) (other, tt)
    by (inr l) (inl h) _ = rw (two_bytes c l h) (high (192 + c / 64) (omega arith), (high (next c) (omega arith), tt))
    by (inr _) (inr l) (inl h) = rw (three_bytes c l h) (high (224 + c / 4096) (omega arith), (high (next (c / 64)) (omega arith), (high (next c) (omega arith), tt)))
    by (inr _) (inr _) (inr l) =
        rw (four_bytes c l) (
          high (240 + c / 262144) (omega arith),
          (
            high (next (c / 4096)) (omega arith),
            (high (next (c / 64)) (omega arith), (high (next c) (omega arith), tt)),
          ),
        )

codes-free : (d : ℕ) (cs : List ℕ) → d < 128 → is_name_char d ≡ false → list_all is_name_char cs ≡ true → Free d (encodes cs)
codes-free d [] low other all = tt
codes-free d (c ∷ cs) low other all =
    let parts = and_parts (is_name_char c) (list_all is_name_char cs) all in
    Free-append d (encode c) (encodes cs) (code-free d c low (λ same. let is : is_name_char d ≡ true = subst (λ y. is_name_char y ≡ true) same parts.0 in cc)) (codes-free d cs low other parts.1)

name-free : (d : ℕ) (name : List ℕ) → d < 128 → is_name_char d ≡ false → is_new_name name ≡ true → Free d name
name-free d name low other is =
    let run = name_is_run name (IsName-is_name name is) in
    rw run.spelled (codes-free d run.codes low other run.pass)

-- no line end stands in these bytes
abbrev HasNoLineEnd : List ℕ → Type 0
HasNoLineEnd bytes = Free 10 bytes × Free 13 bytes

name-plain : (name : List ℕ) → is_new_name name ≡ true → HasNoLineEnd name
name-plain name is = (name-free 10 name (omega arith) refl is, name-free 13 name (omega arith) refl is)

bytes-plain : (bytes : List ℕ) → list_any is_line_end bytes ≡ false → HasNoLineEnd bytes
bytes-plain [] none = (tt, tt)
bytes-plain (b ∷ bs) none =
    let first : is_line_end b ≡ false = grind arith in
    let others : list_any is_line_end bs ≡ false = grind arith in
    let below = bytes-plain bs others in
    ((λ same. let is : is_line_end b ≡ true = rw same refl in cc, below.0), (λ same. let is : is_line_end b ≡ true = rw same refl in cc, below.1))

text-plain : (text : List ℕ) → is_new_text text ≡ true → HasNoLineEnd text
text-plain text is = bytes-plain text (no-line-end (list_any is_line_end text) (and_parts (is_character_data text) (not (list_any is_line_end text)) is).1)
  where
    no-line-end : (b : Bool) → not b ≡ true → b ≡ false
    no-line-end true e = cc
    no-line-end false e = refl

-- a test that doesn't refuse
passed : (b : Bool) (reason : Reason) (later : Option Reason) → unless b reason later ≡ None → (b ≡ false) × (later ≡ None)
passed true reason later is = cc
passed false reason later is = (refl, is)

-- the name or text that ends a line
abbrev last_word : Edit → List ℕ
last_word (Wrap path from to name) = name
last_word (Insert path at name) = name
last_word (Unwrap path) = []
last_word (Rename path name) = name
last_word (Split path at) = []
last_word (Join path) = []
last_word (SetText path text) = text
last_word (AddText path at text) = text
last_word (DelText path) = []

last-plain : {M : Type 0} (blank : M) (root : Tree M) (edit : Edit) → reason_of blank root edit ≡ None → HasNoLineEnd (last_word edit)
last-plain blank root (Wrap path from to name) is =
    let a = passed (lacks_node path root) NoNode _ is in
    let b = passed (lacks_list path root) NotElement _ a.1 in
    let c = passed (nat_lt to from || nat_lt (length (kids_at path root)) to) Range _ b.1 in
    let d = passed (not (is_new_name name)) BadName _ c.1 in
    name-plain name (not-false (is_new_name name) d.0)
last-plain blank root (Insert path at name) is =
    let a = passed (lacks_node path root) NoNode _ is in
    let b = passed (lacks_list path root) NotElement _ a.1 in
    let c = passed (nat_lt (length (kids_at path root)) at) Range _ b.1 in
    let d = passed (not (is_new_name name)) BadName _ c.1 in
    name-plain name (not-false (is_new_name name) d.0)
last-plain blank root (Unwrap path) is = (tt, tt)
last-plain blank root (Rename path name) is =
    let a = passed (lacks_node path root) NoNode _ is in
    let b = passed (lacks_element path root) NotElement _ a.1 in
    let c = passed (not (is_new_name name)) BadName _ b.1 in
    name-plain name (not-false (is_new_name name) c.0)
last-plain blank root (Split path at) is = (tt, tt)
last-plain blank root (Join path) is = (tt, tt)
last-plain blank root (SetText path text) is =
    let a = passed (lacks_node path root) NoNode _ is in
    let b = passed (lacks_text path root) NotText _ a.1 in
    let c = passed (not (is_new_text text)) BadText _ b.1 in
    text-plain text (not-false (is_new_text text) c.0)
last-plain blank root (AddText path at text) is =
    let a = passed (lacks_node path root) NoNode _ is in
    let b = passed (lacks_list path root) NotElement _ a.1 in
    let c = passed (nat_lt (length (kids_at path root)) at) Range _ b.1 in
    let d = passed (not (is_new_text text)) BadText _ c.1 in
    text-plain text (not-false (is_new_text text) d.0)
last-plain blank root (DelText path) is = (tt, tt)

-- bytes past those of control characters are none of these
high-free : (d : ℕ) (bytes : List ℕ) → d < 32 → list_all (nat_lt 31) bytes ≡ true → Free d bytes
high-free d [] low all = tt
high-free d (b ∷ bs) low all =
    let parts = and_parts (nat_lt 31 b) (list_all (nat_lt 31) bs) all in
    let high : 31 < b = grind (arith, nat_tests, parts.0) in
    ((λ same. absurd (omega arith)), high-free d bs low parts.1)

-- a word, a blank and others
spaced-free : (d : ℕ) (word others : List ℕ) → d < 32 → Free d word → Free d others → Free d (word ++ (32 ∷ others))
spaced-free d word others low f g = Free-append d word (32 ∷ others) f ((λ same. absurd (omega arith)), g)

edit-free : (d : ℕ) (edit : Edit) → d < 32 → AreNumbers (numbers_in edit) → Free d (last_word edit) → Free d (edit_text edit)
edit-free d (Wrap path from to name) low all last =
    spaced-free d (codes "wrap") (words (path_text path ∷ decimal from ∷ decimal to ∷ name ∷ [])) low (high-free d (codes "wrap") low refl)
    (spaced-free d (path_text path) (words (decimal from ∷ decimal to ∷ name ∷ [])) low (path-free d path (omega arith) all.1.1)
    (spaced-free d (decimal from) (words (decimal to ∷ name ∷ [])) low (decimal-free d from (omega arith) all.0)
    (spaced-free d (decimal to) name low (decimal-free d to (omega arith) all.1.0) last)))
edit-free d (Insert path at name) low all last =
    spaced-free d (codes "insert") (words (path_text path ∷ decimal at ∷ name ∷ [])) low (high-free d (codes "insert") low refl)
    (spaced-free d (path_text path) (words (decimal at ∷ name ∷ [])) low (path-free d path (omega arith) all.1)
    (spaced-free d (decimal at) name low (decimal-free d at (omega arith) all.0) last))
edit-free d (Unwrap path) low all last =
    spaced-free d (codes "unwrap") (path_text path) low (high-free d (codes "unwrap") low refl) (path-free d path (omega arith) all)
edit-free d (Rename path name) low all last =
    spaced-free d (codes "rename") (words (path_text path ∷ name ∷ [])) low (high-free d (codes "rename") low refl)
    (spaced-free d (path_text path) name low (path-free d path (omega arith) all) last)
edit-free d (Split path at) low all last =
    spaced-free d (codes "split") (words (path_text path ∷ decimal at ∷ [])) low (high-free d (codes "split") low refl)
    (spaced-free d (path_text path) (decimal at) low (path-free d path (omega arith) all.1) (decimal-free d at (omega arith) all.0))
edit-free d (Join path) low all last =
    spaced-free d (codes "join") (path_text path) low (high-free d (codes "join") low refl) (path-free d path (omega arith) all)
edit-free d (SetText path text) low all last =
    spaced-free d (codes "text") (words (path_text path ∷ text ∷ [])) low (high-free d (codes "text") low refl)
    (spaced-free d (path_text path) text low (path-free d path (omega arith) all) last)
edit-free d (AddText path at text) low all last =
    spaced-free d (codes "addtext") (words (path_text path ∷ decimal at ∷ text ∷ [])) low (high-free d (codes "addtext") low refl)
    (spaced-free d (path_text path) (words (decimal at ∷ text ∷ [])) low (path-free d path (omega arith) all.1)
    (spaced-free d (decimal at) text low (decimal-free d at (omega arith) all.0) last))
edit-free d (DelText path) low all last =
    spaced-free d (codes "deltext") (path_text path) low (high-free d (codes "deltext") low refl) (path-free d path (omega arith) all)

without_returns-none : (line : List ℕ) → Free 13 line → without_returns line ≡ line
without_returns-none [] free = refl
without_returns-none (b ∷ []) free = rw (not-eq b 13 free.0) refl
without_returns-none (b ∷ c ∷ cs) free = ap (with_byte_before b) (without_returns-none (c ∷ cs) free.1)

lines_of-line : (line more : List ℕ) → Free 10 line → Free 13 line → lines_of ((line ++ codes "\n") ++ more) ≡ line ∷ lines_of more
lines_of-line line more feed return =
    ap lines_of (append_assoc line (codes "\n") more) ∙ ap (map without_returns) (raw_lines_of-line line more feed)
    ∙ ap (λ l. l ∷ lines_of more) (without_returns-none line return)

pub again : {M : Type 0} → EditsAreReadAgain M
again blank doc made edit applies all more =
    let last = last-plain blank doc.root edit (given-reason (reason_of blank doc.root edit) _ made applies) in
    (lines_of-line (edit_text edit) more (edit-free 10 edit (omega arith) all last.0) (edit-free 13 edit (omega arith) all last.1), record { text = refl; numbers = all })
