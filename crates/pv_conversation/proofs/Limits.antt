-- The lines of a script up to its limits, and those of the bytes that go on from it.
use Rattle.std.proofs.Common.{◌≡◌, ◌≢◌, ◌⊎◌, inl, inr, ℕ, suc, ◌<◌, ◌≤◌, Bool, true, false, ◌||◌, List, [], ◌∷◌, ◌++◌, map, length, refl, sym, ap, ◌∙◌, append_assoc, arith}
use Rattle.std.proofs.lemmas.Bool.{cases_eq}
use Rattle.std.proofs.lemmas.List.{append-nil, length-append, map-append, take-append-le, take_all}
use Rattle.std.proofs.lemmas.List.Folds.{list_any-append}
use Rattle.std.specs.List.{AllByRecursion, list_any}
use Rattle.pv_words.proofs.RawLines.{ended_raw_lines-lines, ended_raw_lines-part, raw_lines_of-lines, raw_lines_of-part}
use Rattle.pv_words.proofs.FirstWords.{Free-append}
use Rattle.pv_words.specs.Lines.{FEED, ended_raw_lines, lines_of, raw_lines_of, without_returns, HasNoFeed, with_feeds}
use Rattle.pv_words.specs.Words.{with_feed}
use Rattle.pv_script.specs.TakenLines.{MAX_LINE_BYTES}
use Rattle.pv_conversation.specs.Conversation.{IsScriptLine}
use Rattle.pv_conversation.specs.Script.{MAX_SCRIPT_BYTES, IsWithin, before_too_long, has_long_line, is_line_too_long, lines_within}

short : (line : List ℕ) → length line ≤ MAX_LINE_BYTES → is_line_too_long line ≡ false
short line within = grind (arith, within)

long : (line : List ℕ) → MAX_LINE_BYTES < length line → is_line_too_long line ≡ true
long line beyond = grind (arith, beyond)

beyond_of : (line : List ℕ) → is_line_too_long line ≡ true → MAX_LINE_BYTES < length line
beyond_of line is = grind (arith, is)

-- what goes on from a line that is too long is too long
pub goes_on_long : (line more : List ℕ) → is_line_too_long line ≡ true → is_line_too_long (line ++ more) ≡ true
goes_on_long line more is = long (line ++ more) (omega (arith, beyond_of line is, length-append line more))

-- what is cut off at a piece that is too long stays cut off
cut_first : (p : List ℕ) (ps qs : List (List ℕ)) (b : Bool) → is_line_too_long p ≡ b → list_any is_line_too_long (p ∷ ps) ≡ true →
    (list_any is_line_too_long ps ≡ true → before_too_long (ps ++ qs) ≡ before_too_long ps) → before_too_long ((p ∷ ps) ++ qs) ≡ before_too_long (p ∷ ps)
cut_first p ps qs true is any below = rw is refl
cut_first p ps qs false is any below = rw is (ap (λ (l : List (List ℕ)). p ∷ l) (below (rw is at any)))

pub cut_stays : (ps qs : List (List ℕ)) → list_any is_line_too_long ps ≡ true → before_too_long (ps ++ qs) ≡ before_too_long ps
cut_stays [] qs any = cc
cut_stays (p ∷ ps) qs any = cut_first p ps qs (is_line_too_long p) refl any (cut_stays ps qs)

-- and what is not cut off goes on
pub true_is_no_false : true ≡ false → ⊥
true_is_no_false is = cc

go_first : (p : List ℕ) (ps qs : List (List ℕ)) (b : Bool) → is_line_too_long p ≡ b → list_any is_line_too_long (p ∷ ps) ≡ false →
    (list_any is_line_too_long ps ≡ false → before_too_long (ps ++ qs) ≡ ps ++ before_too_long qs) → before_too_long ((p ∷ ps) ++ qs) ≡ (p ∷ ps) ++ before_too_long qs
go_first p ps qs true is none below = absurd (true_is_no_false (rw is at none))
go_first p ps qs false is none below = rw is (ap (λ (l : List (List ℕ)). p ∷ l) (below (rw is at none)))

pub goes_on : (ps qs : List (List ℕ)) → list_any is_line_too_long ps ≡ false → before_too_long (ps ++ qs) ≡ ps ++ before_too_long qs
goes_on [] qs none = refl
goes_on (p ∷ ps) qs none = go_first p ps qs (is_line_too_long p) refl none (goes_on ps qs)

-- lines are free of LF, and none of them is too long
lines_free : (lines : List (List ℕ)) → AllByRecursion IsScriptLine lines → AllByRecursion HasNoFeed lines
lines_free [] are = tt
lines_free (l ∷ ls) are = (are.0.0, lines_free ls are.1)

none_long : (lines : List (List ℕ)) → AllByRecursion IsScriptLine lines → list_any is_line_too_long lines ≡ false
none_long [] are = refl
none_long (l ∷ ls) are = rw (short l are.0.1) (none_long ls are.1)

all_within : (lines : List (List ℕ)) → AllByRecursion IsScriptLine lines → before_too_long lines ≡ lines
all_within lines are =
    ap before_too_long (sym (append-nil lines)) ∙ goes_on lines [] (none_long lines are) ∙ append-nil lines

-- the pieces of a part of a line
part_any : (part : List ℕ) → HasNoFeed part → list_any is_line_too_long (raw_lines_of part) ≡ is_line_too_long part
part_any [] free = refl
part_any (b ∷ bs) free = ap (list_any is_line_too_long) (raw_lines_of-part b bs free) ∙ or_none (is_line_too_long (b ∷ bs))
  where
    or_none : (c : Bool) → (c || false) ≡ c
    or_none true = refl
    or_none false = refl

-- whole lines, and a part of one after them
pub record IsReadAs (script : List ℕ) (lines : List (List ℕ)) (part : List ℕ) : Type 0 where
  pub is_cut : script ≡ with_feeds lines ++ part
  pub are_lines : AllByRecursion IsScriptLine lines
  pub is_part : HasNoFeed part

pub read_ended : (script : List ℕ) (lines : List (List ℕ)) (part : List ℕ) → IsReadAs script lines part → ended_raw_lines script ≡ lines
read_ended script lines part read =
    ap ended_raw_lines read.is_cut ∙ ended_raw_lines-lines lines part (lines_free lines read.are_lines)
    ∙ ap (λ (ps : List (List ℕ)). lines ++ ps) (ended_raw_lines-part part read.is_part) ∙ append-nil lines

read_any : (script : List ℕ) (lines : List (List ℕ)) (part : List ℕ) → IsReadAs script lines part → list_any is_line_too_long (raw_lines_of script) ≡ is_line_too_long part
read_any script lines part read =
    ap (λ (h : List ℕ). list_any is_line_too_long (raw_lines_of h)) read.is_cut
    ∙ ap (list_any is_line_too_long) (raw_lines_of-lines lines part (lines_free lines read.are_lines))
    ∙ list_any-append is_line_too_long lines (raw_lines_of part)
    ∙ ap (λ b. b || list_any is_line_too_long (raw_lines_of part)) (none_long lines read.are_lines)
    ∙ part_any part read.is_part

-- within the limit on the script, those lines are answered, and only the part can be too long
pub read_lines : (script : List ℕ) (lines : List (List ℕ)) (part : List ℕ) → IsReadAs script lines part → length script ≤ MAX_SCRIPT_BYTES →
    lines_within script ≡ map without_returns lines
read_lines script lines part read within =
    ap (λ (h : List ℕ). map without_returns (before_too_long (ended_raw_lines h))) (take_all MAX_SCRIPT_BYTES script within)
    ∙ ap (λ (ps : List (List ℕ)). map without_returns (before_too_long ps)) (read_ended script lines part read)
    ∙ ap (map without_returns) (all_within lines read.are_lines)

pub read_long : (script : List ℕ) (lines : List (List ℕ)) (part : List ℕ) → IsReadAs script lines part → length script ≤ suc MAX_SCRIPT_BYTES →
    has_long_line script ≡ is_line_too_long part
read_long script lines part read within =
    ap (λ (h : List ℕ). list_any is_line_too_long (raw_lines_of h)) (take_all (suc MAX_SCRIPT_BYTES) script within) ∙ read_any script lines part read

pub read_within : (script : List ℕ) (lines : List (List ℕ)) (part : List ℕ) → IsReadAs script lines part → length part ≤ MAX_LINE_BYTES → length script ≤ MAX_SCRIPT_BYTES →
    IsWithin script
read_within script lines part read fits within =
    record { lines = read_long script lines part read (omega (arith, within)) ∙ short part fits; whole = within }

pub read_all : (script : List ℕ) (lines : List (List ℕ)) (part : List ℕ) → IsReadAs script lines part →
    lines_of script ≡ map without_returns lines ++ lines_of part
read_all script lines part read =
    ap lines_of read.is_cut ∙ ap (map without_returns) (raw_lines_of-lines lines part (lines_free lines read.are_lines))
    ∙ map-append without_returns lines (raw_lines_of part)

-- one more line, or one more byte of the part
pub feeds_more : (lines : List (List ℕ)) (line : List ℕ) → with_feeds lines ++ (line ++ FEED ∷ []) ≡ with_feeds (lines ++ line ∷ [])
feeds_more [] line = sym (append-nil (with_feed line))
feeds_more (l ∷ ls) line = append_assoc (with_feed l) (with_feeds ls) (line ++ FEED ∷ []) ∙ ap (λ (h : List ℕ). with_feed l ++ h) (feeds_more ls line)

pub lines_more_are : (lines : List (List ℕ)) (line : List ℕ) → AllByRecursion IsScriptLine lines → IsScriptLine line → AllByRecursion IsScriptLine (lines ++ line ∷ [])
lines_more_are [] line are is = (is, tt)
lines_more_are (l ∷ ls) line are is = (are.0, lines_more_are ls line are.1 is)

pub read_more : (script : List ℕ) (b : ℕ) (lines : List (List ℕ)) (part : List ℕ) → IsReadAs script lines part → b ≢ FEED → IsReadAs (script ++ b ∷ []) lines (part ++ b ∷ [])
read_more script b lines part read other = record {
  is_cut = ap (λ (h : List ℕ). h ++ b ∷ []) read.is_cut ∙ append_assoc (with_feeds lines) part (b ∷ []);
  are_lines = read.are_lines;
  is_part = Free-append 10 part (b ∷ []) read.is_part (other, tt);
}

-- a part of a line too long, within the limit on the script
pub read_long_line : (script : List ℕ) (lines : List (List ℕ)) (part : List ℕ) → IsReadAs script lines part → MAX_LINE_BYTES < length part →
    length script ≤ suc MAX_SCRIPT_BYTES → has_long_line script ≡ true
read_long_line script lines part read beyond within = read_long script lines part read within ∙ long part beyond

-- the byte past the limit on the script leaves the lines as they are
pub past_lines : (before : List ℕ) (b : ℕ) (lines : List (List ℕ)) (part : List ℕ) → IsReadAs before lines part → length before ≡ MAX_SCRIPT_BYTES →
    lines_within (before ++ b ∷ []) ≡ map without_returns lines
past_lines before b lines part read full =
    ap (λ (h : List ℕ). map without_returns (before_too_long (ended_raw_lines h)))
    (take-append-le MAX_SCRIPT_BYTES before (b ∷ []) (omega (arith, full)))
    ∙ read_lines before lines part read (omega (arith, full))

-- without, and with no room in the line, it makes that too long
pub past_long : (before : List ℕ) (b : ℕ) (lines : List (List ℕ)) (part : List ℕ) → IsReadAs before lines part → length before ≡ MAX_SCRIPT_BYTES →
    b ≢ FEED → length part ≡ MAX_LINE_BYTES → has_long_line (before ++ b ∷ []) ≡ true
past_long before b lines part read full other no_room =
    read_long_line (before ++ b ∷ []) lines (part ++ b ∷ []) (read_more before b lines part read other)
    (omega (arith, no_room, length-append part (b ∷ []))) (omega (arith, full, length-append before (b ∷ [])))

-- with an LF, or with room in the line, it passes only that limit
past_ended : (before : List ℕ) (b : ℕ) (lines : List (List ℕ)) (part : List ℕ) → IsReadAs before lines part → length before ≡ MAX_SCRIPT_BYTES →
    length part ≤ MAX_LINE_BYTES → b ≡ FEED → has_long_line (before ++ b ∷ []) ≡ false
past_ended before b lines part read full fits is =
    let within : length (before ++ b ∷ []) ≤ suc MAX_SCRIPT_BYTES = omega (arith, full, length-append before (b ∷ [])) in
    let more : IsReadAs (before ++ b ∷ []) (lines ++ part ∷ []) [] = record {
      is_cut = ap (λ (h : List ℕ). h ++ b ∷ []) read.is_cut ∙ append_assoc (with_feeds lines) part (b ∷ [])
          ∙ ap (λ c. with_feeds lines ++ (part ++ c ∷ [])) is ∙ feeds_more lines part ∙ sym (append-nil (with_feeds (lines ++ part ∷ [])));
      are_lines = lines_more_are lines part read.are_lines (read.is_part, fits);
      is_part = tt;
    } in
    read_long (before ++ b ∷ []) (lines ++ part ∷ []) [] more within ∙ short [] (omega arith)

past_room : (before : List ℕ) (b : ℕ) (lines : List (List ℕ)) (part : List ℕ) → IsReadAs before lines part → length before ≡ MAX_SCRIPT_BYTES →
    b ≢ FEED → length part < MAX_LINE_BYTES → has_long_line (before ++ b ∷ []) ≡ false
past_room before b lines part read full other less =
    read_long (before ++ b ∷ []) lines (part ++ b ∷ []) (read_more before b lines part read other) (omega (arith, full, length-append before (b ∷ [])))
    ∙ short (part ++ b ∷ []) (omega (arith, less, length-append part (b ∷ [])))

pub past_short : (before : List ℕ) (b : ℕ) (lines : List (List ℕ)) (part : List ℕ) → IsReadAs before lines part → length before ≡ MAX_SCRIPT_BYTES →
    length part ≤ MAX_LINE_BYTES → (b ≡ FEED) ⊎ (length part < MAX_LINE_BYTES) → has_long_line (before ++ b ∷ []) ≡ false
past_short before b lines part read full fits (inl is) = past_ended before b lines part read full fits is
past_short before b lines part read full fits (inr less) = by (cases_eq b FEED)
  where
    by : (b ≡ FEED) ⊎ (b ≢ FEED) → has_long_line (before ++ b ∷ []) ≡ false
    by (inl is) = past_ended before b lines part read full fits is
    by (inr other) = past_room before b lines part read full other less
