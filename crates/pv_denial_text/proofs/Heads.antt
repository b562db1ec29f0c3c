-- The lines of a denial's text up to its rows, and a whole text.
use Rattle.std.proofs.Common.{◌≡◌, ◌≤◌, ℕ, List, [], ◌∷◌, ◌++◌, map, length, refl, sym, ap, subst, ◌∙◌, append-nil, arith, Some, None, inr, Ok, Err, Result, IfOk, IfErr, codes}
use Rattle.std.proofs.lemmas.List.{length-append}
use Rattle.pv_words.specs.Paths.{path_text, path_spelled}
use Rattle.pv_words.specs.Words.{with_feed}
use Rattle.pv_words.proofs.PathWords.{path-free, path-word, path_spelled-path_text}
use Rattle.pv_words.specs.Fronts.{IsLineOf}
use Rattle.pv_words.proofs.Cuts.{one-line-of}
use Rattle.pv_denial.specs.declared.denials.Cause.{Cause}
use Rattle.pv_denial.specs.declared.denials.Denial.{Denial}
use Rattle.pv_denial.specs.declared.denials.Row.{Row}
use Rattle.pv_denial_text.specs.Fronts.{Begins, BeginsNone}
use Rattle.pv_denial_text.specs.Lines.{cause_line, cause_word, end_line, list_line, row_line, version_line}
use Rattle.pv_denial_text.specs.Meaning.{Answers, DenialMeans, HasTooMany, IsFaulty, MAX_DENIAL_BYTES, Outcome, Refuses, Stand, is_denial, is_fault, is_past_limit}
use Rattle.pv_denial_text.specs.Steps.{EndsWithRows, HasTooManyBehind, IsFaultyBehind, RefusesRows}
use Rattle.pv_denial_text.specs.Steps.{head_lines}
use Rattle.pv_denial_text.specs.Texts.{lines_text}
use Rattle.pv_denial_text.specs.declared.errors.TableError.{TableError}
use Rattle.pv_denial_text.specs.declared.errors.TableError.TheVariants.{Limit, NoMemory, Syntax}
use Rattle.pv_denial_text.proofs.OneLine.{cause-free}
use Rattle.pv_denial_text.proofs.OneMeaning.{one-meaning}
use Rattle.pv_denial_text.proofs.LineSequences.{no-cause, no-list, stand-append, stand-more}
use Rattle.pv_denial_text.proofs.LineSequences.{stand-one}

-- the line of a path
list-front : (bytes path rest : List ℕ) → Begins bytes (list_line path) rest → IsLineOf (codes "list ") bytes (path_text path) rest
list-front bytes path rest begins = record { no_feed = path-free 10 path (omega arith) begins.in_range; whole = begins.whole }

pub no-list-line : (bytes : List ℕ) → ((args rest : List ℕ) → IsLineOf (codes "list ") bytes args rest → ⊥) → BeginsNone list_line bytes
no-list-line bytes none path rest begins = none (path_text path) rest (list-front bytes path rest begins)

pub other-list : (bytes word after : List ℕ) → IsLineOf (codes "list ") bytes word after → path_spelled word ≡ None → BeginsNone list_line bytes
other-list bytes word after line none path rest begins =
    let same = one-line-of (codes "list ") bytes word after (path_text path) rest refl line (list-front bytes path rest begins) in
    let read = path_spelled-path_text path begins.in_range in
    let these = ap path_spelled same.fronts in
    cc

pub begins-list : (bytes word after path : List ℕ) → IsLineOf (codes "list ") bytes word after → path_spelled word ≡ Some path → Begins bytes (list_line path) after
begins-list bytes word after path line is =
    let p = path-word word path is in
    record { in_range = p.within; whole = line.whole ∙ ap (λ l. with_feed (codes "list " ++ l) ++ after) p.text }

-- the line of a cause
cause-front : (bytes : List ℕ) (c : Cause) (rest : List ℕ) → Begins bytes (cause_line c) rest → IsLineOf (codes "cause ") bytes (cause_word c) rest
cause-front bytes c rest begins = record { no_feed = cause-free c; whole = begins.whole }

pub other-cause : (bytes word after : List ℕ) → IsLineOf (codes "cause ") bytes word after → ((c : Cause) → word ≡ cause_word c → ⊥) → BeginsNone cause_line bytes
other-cause bytes word after line none c rest begins =
    none c (one-line-of (codes "cause ") bytes word after (cause_word c) rest refl line (cause-front bytes c rest begins)).fronts

-- the lines of the head, one by one
version-stands : (bytes rest : List ℕ) → Begins bytes version_line rest → Stand None bytes (version_line ∷ []) rest
version-stands bytes rest b = stand-one None bytes version_line rest record { may_follow = tt; begins = b }

list-stands : (bytes rest path more : List ℕ) → Begins bytes version_line rest → Begins rest (list_line path) more → Stand None bytes (version_line ∷ list_line path ∷ []) more
list-stands bytes rest path more b l = stand-more None bytes (version_line ∷ []) rest (list_line path) more (version-stands bytes rest b) record { may_follow = tt; begins = l }

pub head-stands : (bytes rest path more : List ℕ) (c : Cause) (after : List ℕ) →
    Begins bytes version_line rest → Begins rest (list_line path) more →
    Begins more (cause_line c) after → Stand None bytes (head_lines path c) after
head-stands bytes rest path more c after b l k =
    stand-more None bytes (version_line ∷ list_line path ∷ []) more (cause_line c) after (list-stands bytes rest path more b l) record { may_follow = tt; begins = k }

pub fault-at-list : (bytes rest : List ℕ) → Begins bytes version_line rest → BeginsNone list_line rest → IsFaulty bytes 1
fault-at-list bytes rest b none = record {
  lines = version_line ∷ [];
  rest = rest;
  stand = version-stands bytes rest b;
  number = refl;
  within = omega arith;
  none = no-list rest none;
  cut = λ w. let e = w.0 in cc;
}

pub fault-at-cause : (bytes rest path more : List ℕ) → Begins bytes version_line rest → Begins rest (list_line path) more → BeginsNone cause_line more → IsFaulty bytes 2
fault-at-cause bytes rest path more b l none = record {
  lines = version_line ∷ list_line path ∷ [];
  rest = more;
  stand = list-stands bytes rest path more b l;
  number = refl;
  within = omega arith;
  none = no-cause path more none;
  cut = λ w. let e = w.0 in cc;
}

-- the head and what stands after it
pub denial-read : (bytes path : List ℕ) (c : Cause) (rest : List ℕ) (rows : List Row) (d : Denial) →
    length bytes ≤ MAX_DENIAL_BYTES → Stand None bytes (head_lines path c) rest → EndsWithRows rest rows →
    d ≡ record { path = path; cause = c; rows = rows } → DenialMeans bytes (is_denial d)
denial-read bytes path c rest rows d few s t is =
    let tail = map row_line rows ++ end_line ∷ [] in
    let stand = stand-append None bytes (head_lines path c) rest tail [] s (t.stand c) in
    let whole : DenialMeans bytes (is_denial record { path = path; cause = c; rows = rows }) =
    (few, record { are_lines = stand.are_lines; spelled = stand.whole ∙ append-nil (lines_text (head_lines path c ++ tail)) }, t.few) in
    subst (λ p. DenialMeans bytes (is_denial p)) (sym is) whole

fault-behind : (bytes path : List ℕ) (c : Cause) (rest : List ℕ) (k : ℕ) → Stand None bytes (head_lines path c) rest → IsFaultyBehind c rest k → IsFaulty bytes k
fault-behind bytes path c rest k s f = record {
  lines = head_lines path c ++ f.lines;
  rest = f.rest;
  stand = stand-append None bytes (head_lines path c) rest f.lines f.rest s f.stand;
  number = omega (arith, f.number, length-append (head_lines path c) f.lines);
  within = f.within;
  none = f.none;
  cut = f.cut;
}

too-many-behind : (bytes path : List ℕ) (c : Cause) (rest : List ℕ) → Stand None bytes (head_lines path c) rest → HasTooManyBehind c rest → HasTooMany bytes
too-many-behind bytes path c rest s m = record {
  lines = head_lines path c ++ m.lines;
  row = m.row;
  rest = m.rest;
  stand = stand-append None bytes (head_lines path c) rest (m.lines ++ row_line m.row ∷ []) m.rest s m.stand;
  within = m.within;
  past = m.past;
}

pub rows-refused : (bytes path : List ℕ) (c : Cause) (rest : List ℕ) (error : TableError) →
    length bytes ≤ MAX_DENIAL_BYTES → Stand None bytes (head_lines path c) rest →
    RefusesRows rest error → Refuses bytes error
rows-refused bytes path c rest (Syntax k) few s r = (few, fault-behind bytes path c rest k s (r c))
rows-refused bytes path c rest Limit few s r = inr (few, too-many-behind bytes path c rest s (r c))
rows-refused bytes path c rest NoMemory few s r = tt

-- one meaning, so the answer is it
answers-ok : (bytes : List ℕ) (d : Denial) → DenialMeans bytes (is_denial d) → (o : Outcome) → DenialMeans bytes o → Answers o (Ok d)
answers-ok bytes d m o n = subst (λ p. Answers p (Ok d)) (one-meaning bytes (is_denial d) o m n) refl

answers-err : (bytes : List ℕ) (error : TableError) → Refuses bytes error → (o : Outcome) → DenialMeans bytes o → Answers o (Err error)
answers-err bytes (Syntax k) m o n = subst (λ p. Answers p (Err (Syntax k))) (one-meaning bytes (is_fault k) o m n) refl
answers-err bytes Limit m o n = subst (λ p. Answers p (Err Limit)) (one-meaning bytes is_past_limit o m n) tt
answers-err bytes NoMemory m (is_denial d) n = tt
answers-err bytes NoMemory m (is_fault k) n = tt
answers-err bytes NoMemory m is_past_limit n = tt

pub answers-result : (bytes : List ℕ) (r : Result Denial TableError) →
    IfOk r (λ d. DenialMeans bytes (is_denial d)) → IfErr r (λ e. Refuses bytes e) → (o : Outcome) →
    DenialMeans bytes o → Answers o r
answers-result bytes (Ok d) read refused o m = answers-ok bytes d read o m
answers-result bytes (Err error) read refused o m = answers-err bytes error refused o m
