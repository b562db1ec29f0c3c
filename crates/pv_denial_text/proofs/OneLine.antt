-- At most one line stands at the front of some bytes.
use Rattle.std.proofs.Common.{◌≡◌, ℕ, List, [], ◌∷◌, ◌++◌, refl, sym, ap, ◌∙◌, append_assoc, arith, codes}
use Rattle.std.specs.Prelude.{if◌then◌else◌, ◌==◌}
use Rattle.std.proofs.lemmas.List.{append_cancel_left}
use Rattle.pv_rules.specs.PlainForms.{plain_site}
use Rattle.pv_rules.specs.Sites.{PlainSite, content_site, name_site, part_site, rest_site}
use Rattle.pv_words.specs.Paths.{path_text, path_spelled}
use Rattle.pv_words.specs.Words.{words}
use Rattle.pv_words.proofs.PathWords.{path-free, path_spelled-path_text}
use Rattle.pv_words.specs.Fronts.{IsLineOf}
use Rattle.pv_cert.specs.Lines.{kind_word}
use Rattle.pv_words.proofs.Cuts.{feed-behind, free-by-test, one-line-of}
use Rattle.pv_words.proofs.FirstWords.{Free}
use Rattle.pv_denial.specs.declared.denials.Cause.{Cause}
use Rattle.pv_denial.specs.declared.denials.Cause.TheVariants as cause
use Rattle.pv_denial_text.specs.Lines.{DenialLine, IsInRange, cause_line, cause_word, end_line, line_text, list_line, row_line, row_words, version_line}
use Rattle.pv_denial_text.proofs.RowWords.{row-whole, same-row}

-- the number of a line's kind, and the kind by the second byte
abbrev kind_of : DenialLine → ℕ
kind_of version_line = 0
kind_of (list_line p) = 1
kind_of (cause_line c) = 2
kind_of (row_line r) = 3
kind_of end_line = 4

abbrev kind_by : List ℕ → ℕ
kind_by [] = 5
kind_by (b ∷ []) = 5
kind_by (b ∷ c ∷ bs) = if c == 118 then 0 else if c == 105 then 1 else if c == 97 then 2 else if c == 32 then 3 else 4

row-kind : (s : PlainSite) (x : List ℕ) → kind_by (kind_word s ++ (32 ∷ x)) ≡ 3
row-kind (content_site n) x = refl
row-kind (name_site n) x = refl
row-kind (part_site n) x = refl
row-kind (rest_site n) x = refl

kind-told : (l : DenialLine) (x : List ℕ) → IsInRange l → kind_by (line_text l ++ x) ≡ kind_of l
kind-told version_line x i = refl
kind-told (list_line p) x i = refl
kind-told (cause_line c) x i = refl
kind-told (row_line r) x i =
    let w = row-whole r i in
    ap kind_by (feed-behind (words (row_words r)) x ∙ ap (λ l. l ++ (10 ∷ x)) w.whole
    ∙ append_assoc (kind_word (plain_site r.site)) (32 ∷ w.behind) (10 ∷ x))
    ∙ row-kind (plain_site r.site) (w.behind ++ (10 ∷ x))
kind-told end_line x i = refl

-- one line, and what stands after it
pub record SameLine (l m : DenialLine) (x y : List ℕ) : Type 0 where
  pub lines : l ≡ m
  pub rests : x ≡ y

same-list : (p q x y : List ℕ) → IsInRange (list_line p) → IsInRange (list_line q) → line_text (list_line p) ++ x ≡ line_text (list_line q) ++ y → SameLine (list_line p) (list_line q) x y
same-list p q x y r s e =
    let bytes = line_text (list_line p) ++ x in
    let one : IsLineOf (codes "list ") bytes (path_text p) x = record { no_feed = path-free 10 p (omega arith) r; whole = refl } in
    let other : IsLineOf (codes "list ") bytes (path_text q) y = record { no_feed = path-free 10 q (omega arith) s; whole = e } in
    let same = one-line-of (codes "list ") bytes (path_text p) x (path_text q) y refl one other in
    let first = path_spelled-path_text p r in
    let second = path_spelled-path_text q s in
    let these = ap path_spelled same.fronts in
    let paths : p ≡ q = cc in
    record { lines = ap list_line paths; rests = same.rests }

-- no LF stands in the word of a cause, and each cause has a word of its own
pub cause-free : (c : Cause) → Free 10 (cause_word c)
cause-free cause.Undeclared = free-by-test (codes "undeclared") refl
cause-free cause.Unproductive = free-by-test (codes "unproductive") refl
cause-free cause.Empty = free-by-test (codes "empty") refl
cause-free cause.Word = free-by-test (codes "word") refl

pub same-cause : (c d : Cause) → cause_word c ≡ cause_word d → c ≡ d
same-cause cause.Undeclared cause.Undeclared e = refl
same-cause cause.Undeclared cause.Unproductive e = cc
same-cause cause.Undeclared cause.Empty e = cc
same-cause cause.Undeclared cause.Word e = cc
same-cause cause.Unproductive cause.Undeclared e = cc
same-cause cause.Unproductive cause.Unproductive e = refl
same-cause cause.Unproductive cause.Empty e = cc
same-cause cause.Unproductive cause.Word e = cc
same-cause cause.Empty cause.Undeclared e = cc
same-cause cause.Empty cause.Unproductive e = cc
same-cause cause.Empty cause.Empty e = refl
same-cause cause.Empty cause.Word e = cc
same-cause cause.Word cause.Undeclared e = cc
same-cause cause.Word cause.Unproductive e = cc
same-cause cause.Word cause.Empty e = cc
same-cause cause.Word cause.Word e = refl

same-causes : (c d : Cause) (x y : List ℕ) → line_text (cause_line c) ++ x ≡ line_text (cause_line d) ++ y → SameLine (cause_line c) (cause_line d) x y
same-causes c d x y e =
    let bytes = line_text (cause_line c) ++ x in
    let one : IsLineOf (codes "cause ") bytes (cause_word c) x = record { no_feed = cause-free c; whole = refl } in
    let other : IsLineOf (codes "cause ") bytes (cause_word d) y = record { no_feed = cause-free d; whole = e } in
    let same = one-line-of (codes "cause ") bytes (cause_word c) x (cause_word d) y refl one other in
    record { lines = ap cause_line (same-cause c d same.fronts); rests = same.rests }

same-by : (l m : DenialLine) (x y : List ℕ) → kind_of l ≡ kind_of m → IsInRange l → IsInRange m → line_text l ++ x ≡ line_text m ++ y → SameLine l m x y
same-by version_line version_line x y k r s e = record { lines = refl; rests = append_cancel_left (line_text version_line) x y e }
same-by (list_line p) (list_line q) x y k r s e = same-list p q x y r s e
same-by (cause_line c) (cause_line d) x y k r s e = same-causes c d x y e
same-by (row_line f) (row_line g) x y k r s e = let same = same-row f g x y r s e in record { lines = ap row_line same.rows; rests = same.rests }
same-by end_line end_line x y k r s e = record { lines = refl; rests = append_cancel_left (line_text end_line) x y e }
same-by _ _ x y k r s e = absurd (omega arith)

pub same-line : (l m : DenialLine) (x y : List ℕ) → IsInRange l → IsInRange m → line_text l ++ x ≡ line_text m ++ y → SameLine l m x y
same-line l m x y r s e = same-by l m x y (sym (kind-told l x r) ∙ ap kind_by e ∙ kind-told m y s) r s e
