-- At most one line stands at the front of bytes within the limit.
use Rattle.std.proofs.Common.{◌≡◌, ◌≤◌, ◌<◌, ℕ, ◌+◌, suc, List, [], ◌∷◌, ◌++◌, length, take, refl, sym, ap, ◌∙◌, append_assoc, arith, decimal, codes, Some, None, true, nat_eq, cond}
use Rattle.std.specs.Prelude.{if◌then◌else◌, ◌==◌}
use Rattle.std.proofs.lemmas.List.{append_cancel_left}
use Rattle.std.proofs.Math.Seq.{take-append_seam}
use Rattle.pv_model.specs.declared.models.NameId.{NameId}
use Rattle.pv_rules.specs.Derivations.{most_missing}
use Rattle.pv_rules.specs.PlainForms.{plain_site}
use Rattle.pv_rules.specs.Sites.{PlainSite, content_site, name_site, part_site, rest_site}
use Rattle.pv_rules.specs.declared.sites.Site.{Site}
use Rattle.pv_rules.specs.declared.sites.Site.TheVariants as site
use Rattle.pv_words.specs.Numbers.{MAX_NUMBER}
use Rattle.pv_words.specs.Paths.{path_text, path_spelled}
use Rattle.pv_words.specs.Words.{with_feed, words}
use Rattle.pv_words.proofs.PathWords.{path-free, path_spelled-path_text}
use Rattle.pv_tables.specs.Tables.{site_number}
use Rattle.pv_tables.specs.declared.tables.Entry.{Entry}
use Rattle.pv_cert.specs.Fronts.{Begins, IsEntryText, IsKind}
use Rattle.pv_words.specs.Fronts.{IsLineOf, IsNumberLine, has_no_feed}
use Rattle.pv_cert.specs.Lines.{IsEntryInRange, IsInRange, PackLine, entry_words, kind_word, line_text, version_line, total_line, mark_line, body_line, list_line, entry_line, end_line}
use Rattle.pv_cert.specs.Meaning.{MAX_PACK_BYTES}
use Rattle.pv_words.proofs.Cuts.{cut-once, feed-behind, one-line-of, SameNumber, one-number-before}
use Rattle.pv_cert.proofs.EntryWords.{entry-free, has-letter, one-span-and-value, span_text}
use Rattle.pv_cert.proofs.Fronts.{body-front, one-number-line}

-- the number of a line's kind, and the kind by the first two bytes
abbrev kind_of : PackLine → ℕ
kind_of version_line = 0
kind_of (total_line k) = 1
kind_of (mark_line m) = 2
kind_of (body_line b) = 3
kind_of (list_line p) = 4
kind_of (entry_line e) = 5
kind_of end_line = 6

abbrev kind_by : List ℕ → ℕ
kind_by [] = 7
kind_by (b ∷ []) = 7
kind_by (b ∷ c ∷ bs) =
    if c == 118 then 0 else if c == 32 then 5 else if b == 116 then 1 else if b == 109 then 2 else if b == 98 then 3 else if b == 108 then 4 else 6

entry-kind : (s : PlainSite) (x : List ℕ) → kind_by (kind_word s ++ (32 ∷ x)) ≡ 5
entry-kind (content_site n) x = refl
entry-kind (name_site n) x = refl
entry-kind (part_site n) x = refl
entry-kind (rest_site n) x = refl

-- the words of an entry after its kind
abbrev behind_kind : Entry → List ℕ
behind_kind e = decimal (site_number (plain_site e.site)) ++ (32 ∷ span_text e)

kind-told : (l : PackLine) (x : List ℕ) → kind_by (line_text l ++ x) ≡ kind_of l
kind-told version_line x = refl
kind-told (total_line k) x = refl
kind-told (mark_line m) x = refl
kind-told (body_line b) x = refl
kind-told (list_line p) x = refl
kind-told (entry_line e) x =
    ap kind_by (feed-behind (words (entry_words e)) x ∙ append_assoc (kind_word (plain_site e.site)) (32 ∷ behind_kind e) (10 ∷ x)) ∙ entry-kind (plain_site e.site) (behind_kind e ++ (10 ∷ x))
kind-told end_line x = refl

-- one line, and what stands after it
pub record SameLine (l m : PackLine) (x y : List ℕ) : Type 0 where
  pub lines : l ≡ m
  pub rests : x ≡ y

same-total : (word : List ℕ) (most n m : ℕ) (x y : List ℕ) → has_no_feed word ≡ true → most ≤ MAX_NUMBER → n ≤ most → m ≤ most →
    with_feed (word ++ decimal n) ++ x ≡ with_feed (word ++ decimal m) ++ y → SameNumber n m x y
same-total word most n m x y test small r s e =
    one-number-line word most (with_feed (word ++ decimal n) ++ x) n m x y test small record { within = r; whole = refl } record { within = s; whole = e }

same-body : (b c x y : List ℕ) → length (line_text (body_line b) ++ x) ≤ MAX_PACK_BYTES → line_text (body_line b) ++ x ≡ line_text (body_line c) ++ y → SameLine (body_line b) (body_line c) x y
same-body b c x y few e =
    let bytes = line_text (body_line b) ++ x in
    let one = body-front bytes b x few record { in_range = tt; whole = refl } in
    let other = body-front bytes c y few record { in_range = tt; whole = e } in
    let same = one-number-line (codes "body ") MAX_NUMBER bytes (length b) (length c) (b ++ (10 ∷ x)) (c ++ (10 ∷ y)) refl (omega arith) one other in
    let fronts : b ≡ c = sym (take-append_seam b (10 ∷ x)) ∙ (λ i. take (same.numbers i) (same.rests i)) ∙ take-append_seam c (10 ∷ y) in
    let behind : b ++ (10 ∷ x) ≡ b ++ (10 ∷ y) = same.rests ∙ ap (λ l. l ++ (10 ∷ y)) (sym fronts) in
    let rests : 10 ∷ x ≡ 10 ∷ y = append_cancel_left b (10 ∷ x) (10 ∷ y) behind in
    record { lines = ap body_line fronts; rests = cc }

same-list : (p q x y : List ℕ) → IsInRange (list_line p) → IsInRange (list_line q) → line_text (list_line p) ++ x ≡ line_text (list_line q) ++ y → SameLine (list_line p) (list_line q) x y
same-list p q x y r s e =
    let bytes = line_text (list_line p) ++ x in
    let one : IsLineOf (codes "list ") bytes (path_text p) x = record { no_feed = path-free 10 p (omega arith) r; whole = refl } in
    let other : IsLineOf (codes "list ") bytes (path_text q) y = record { no_feed = path-free 10 q (omega arith) s; whole = e } in
    let same = one-line-of (codes "list ") bytes (path_text p) x (path_text q) y refl one other in
    let first = path_spelled-path_text p r in
    let second = path_spelled-path_text q s in
    let these = ap path_spelled same.fronts in
    let paths : p ≡ q = cc in
    record { lines = ap list_line paths; rests = same.rests }

name-same : (i j : NameId) → i.0 ≡ j.0 → i ≡ j
name-same i j e = λ k. record { 0 = e k }

other : {A : Type 0} (a b letter : ℕ) → a ∷ [] ≡ letter ∷ [] → b ∷ [] ≡ letter ∷ [] → (a ≡ b → ⊥) → A
other a b letter k l n = let same : a ≡ b = cc in absurd (n same)

pub same-site : (s t : Site) (letter : ℕ) → IsKind letter s → IsKind letter t → site_number (plain_site s) ≡ site_number (plain_site t) → s ≡ t
same-site (site.Name i) (site.Name j) letter k l n = ap site.Name (name-same i j n)
same-site (site.Content i) (site.Content j) letter k l n = ap site.Content (name-same i j n)
same-site (site.Part p) (site.Part q) letter k l n = ap site.Part n
same-site (site.Rest p) (site.Rest q) letter k l n = ap site.Rest n
same-site (site.Name i) (site.Content j) letter k l n = other 110 99 letter k l (λ e. absurd (omega arith))
same-site (site.Name i) (site.Part q) letter k l n = other 110 112 letter k l (λ e. absurd (omega arith))
same-site (site.Name i) (site.Rest q) letter k l n = other 110 115 letter k l (λ e. absurd (omega arith))
same-site (site.Content i) (site.Name j) letter k l n = other 99 110 letter k l (λ e. absurd (omega arith))
same-site (site.Content i) (site.Part q) letter k l n = other 99 112 letter k l (λ e. absurd (omega arith))
same-site (site.Content i) (site.Rest q) letter k l n = other 99 115 letter k l (λ e. absurd (omega arith))
same-site (site.Part p) (site.Name j) letter k l n = other 112 110 letter k l (λ e. absurd (omega arith))
same-site (site.Part p) (site.Content j) letter k l n = other 112 99 letter k l (λ e. absurd (omega arith))
same-site (site.Part p) (site.Rest q) letter k l n = other 112 115 letter k l (λ e. absurd (omega arith))
same-site (site.Rest p) (site.Name j) letter k l n = other 115 110 letter k l (λ e. absurd (omega arith))
same-site (site.Rest p) (site.Content j) letter k l n = other 115 99 letter k l (λ e. absurd (omega arith))
same-site (site.Rest p) (site.Part q) letter k l n = other 115 112 letter k l (λ e. absurd (omega arith))

same-entry-text : (line : List ℕ) (e f : Entry) → IsEntryText line e → IsEntryText line f → e ≡ f
same-entry-text line e f t u =
    let one = has-letter line e t in
    let second = has-letter line f u in
    let letters : one.letter ≡ second.letter = cc (one.whole, second.whole) in
    let behind : behind_kind e ≡ behind_kind f = cc (one.whole, second.whole) in
    let numbers = one-number-before (behind_kind e) (site_number (plain_site e.site)) (site_number (plain_site f.site)) (span_text e) (span_text f)
    record { within = t.in_range.number; whole = refl } record { within = u.in_range.number; whole = behind } in
    let spans = one-span-and-value (span_text e) e.from e.to e.value f.from f.to f.value
    record { is_from = t.in_range.from; is_to = t.in_range.to; is_value = omega (arith, t.in_range.value); whole = refl }
    record { is_from = u.in_range.from; is_to = u.in_range.to; is_value = omega (arith, u.in_range.value); whole = numbers.rests } in
    let sites = same-site e.site f.site second.letter (one.is_kind ∙ ap (λ b. b ∷ []) letters) second.is_kind numbers.numbers in
    λ i. record { site = sites i; from = spans.froms i; to = spans.tos i; value = spans.values i }

pub same-entry : (e f : Entry) (x y : List ℕ) → IsEntryInRange e → IsEntryInRange f → line_text (entry_line e) ++ x ≡ line_text (entry_line f) ++ y → SameLine (entry_line e) (entry_line f) x y
same-entry e f x y r s is =
    let same = cut-once 10 (words (entry_words e)) (words (entry_words f)) x y (entry-free x e r) (entry-free x f s)
    (sym (feed-behind (words (entry_words e)) x) ∙ is ∙ feed-behind (words (entry_words f)) y) in
    record { lines = ap entry_line (same-entry-text (words (entry_words e)) e f record { in_range = r; whole = refl } record { in_range = s; whole = same.fronts }); rests = same.rests }

-- the kinds differ, so this can't be
apart : {A : Type 0} (i j : ℕ) → i ≡ j → (i ≡ j → ⊥) → A
apart i j e n = absurd (n e)

same-by : (l m : PackLine) (x y : List ℕ) → kind_of l ≡ kind_of m → length (line_text l ++ x) ≤ MAX_PACK_BYTES → IsInRange l → IsInRange m → line_text l ++ x ≡ line_text m ++ y → SameLine l m x y
same-by version_line version_line x y k few r s e = record { lines = refl; rests = append_cancel_left (line_text version_line) x y e }
same-by (total_line n) (total_line m) x y k few r s e =
    let same = same-total (codes "total ") most_missing n m x y refl (omega arith) r s e in record { lines = ap total_line same.numbers; rests = same.rests }
same-by (mark_line n) (mark_line m) x y k few r s e =
    let same = same-total (codes "mark ") MAX_NUMBER n m x y refl (omega arith) r s e in record { lines = ap mark_line same.numbers; rests = same.rests }
same-by (body_line b) (body_line c) x y k few r s e = same-body b c x y few e
same-by (list_line p) (list_line q) x y k few r s e = same-list p q x y r s e
same-by (entry_line f) (entry_line g) x y k few r s e = same-entry f g x y r s e
same-by end_line end_line x y k few r s e = record { lines = refl; rests = append_cancel_left (line_text end_line) x y e }
same-by _ _ x y k few r s e = absurd (omega arith)

pub same-line : (l m : PackLine) (x y : List ℕ) → length (line_text l ++ x) ≤ MAX_PACK_BYTES → IsInRange l → IsInRange m → line_text l ++ x ≡ line_text m ++ y → SameLine l m x y
same-line l m x y few r s e = same-by l m x y (sym (kind-told l x) ∙ ap kind_by e ∙ kind-told m y) few r s e
