-- Lines of ranges are read as they are written.
use Rattle.std.proofs.Common.{◌≡◌, inl, inr, ℕ, ◌≤◌, List, [], ◌∷◌, ◌++◌, length, Bool, true, false, Option, Some, None, Ok, Err, refl, sym, ◌∙◌, ap}
use Rattle.std.proofs.Common.{subst, arith, append_assoc, map, decimal, length-append}
use Rattle.std.specs.Option.{option_and_then, option_map}
use Rattle.pv_chars.specs.Fronts.{ContainsBytes, EndsAt}
use Rattle.pv_chars.specs.Names.{is_name}
use Rattle.pv_chars.proofs.NameLemmas.{is_name-IsName, IsName-is_name}
use Rattle.pv_words.specs.Numbers.{MAX_NUMBER, number_spelled}
use Rattle.pv_words.specs.Lines.{HasNoFeed, lines_of, without_returns}
use Rattle.pv_words.specs.Words.{first_word}
use Rattle.pv_words.proofs.NumberWords.{decimal-free, number_spelled-decimal, number-word}
use Rattle.pv_words.proofs.FirstWords.{Free, ends-free, none-free, first_word-free, first_word-none, first_word-whole}
use Rattle.pv_words.proofs.RawLines.{ends_line, raw_lines_of-part}
use Rattle.pv_standoff.specs.Laws.{OneReading}
use Rattle.pv_standoff.specs.Lines.{SpellsRange, IsNoRange, SpellRanges, IsFirstNoRange, HasTooMany}
use Rattle.pv_standoff.specs.Lines.{number_at, range_with, range_of}
use Rattle.pv_standoff.specs.Ranges.{AreNamed, MAX_RANGES}
use Rattle.pv_standoff.specs.declared.errors.RangesError.TheVariants.{Syntax, Limit, NoMemory}
use Rattle.pv_standoff.specs.declared.ranges.Range.{Range}
use Rattle.pv_standoff.proofs.Lists.{cuts}

-- ---- lines
no_feed : (bytes : List ℕ) → Free 10 bytes → HasNoFeed bytes
no_feed [] f = tt
no_feed (b ∷ bs) f = (f.0, no_feed bs f.1)

pub line_ended : (bytes line rest : List ℕ) → EndsAt (10 ∷ []) bytes line rest → lines_of bytes ≡ without_returns line ∷ lines_of rest
line_ended bytes line rest e = ap lines_of e.whole ∙ ends_line line rest (no_feed line (ends-free 10 line rest bytes e))

pub line_cut_off : (bytes : List ℕ) → (bytes ≡ [] → ⊥) → (ContainsBytes bytes (10 ∷ []) → ⊥) → lines_of bytes ≡ without_returns bytes ∷ []
line_cut_off [] some none = absurd (some refl)
line_cut_off (b ∷ bs) some none = ap (λ ls. map without_returns ls) (raw_lines_of-part b bs (no_feed (b ∷ bs) (none-free 10 (b ∷ bs) none)))

-- ---- numbers
pub no_word : (bytes : List ℕ) → (ContainsBytes bytes (32 ∷ []) → ⊥) → number_at bytes ≡ None
no_word bytes none = rw (first_word-none bytes (none-free 32 bytes none)) refl

word_found : (bytes word rest : List ℕ) → EndsAt (32 ∷ []) bytes word rest → first_word bytes ≡ Some (word, rest)
word_found bytes word rest e = ap first_word e.whole ∙ first_word-free word rest (ends-free 32 word rest bytes e)

pub no_number : (bytes word rest : List ℕ) → EndsAt (32 ∷ []) bytes word rest → number_spelled word ≡ None → number_at bytes ≡ None
no_number bytes word rest e n = rw (word_found bytes word rest e, n) refl

pub number_found : (bytes word rest : List ℕ) (n : ℕ) → EndsAt (32 ∷ []) bytes word rest → number_spelled word ≡ Some n → number_at bytes ≡ Some (n, rest)
number_found bytes word rest n e k = rw (word_found bytes word rest e, k) refl

pub number_at-written : (n : ℕ) (rest : List ℕ) → n ≤ MAX_NUMBER → number_at (decimal n ++ (32 ∷ rest)) ≡ Some (n, rest)
number_at-written n rest within = rw (first_word-free (decimal n) rest (decimal-free 32 n (omega arith) within), number_spelled-decimal n within) refl

-- the bytes are a number, a blank and what stands after it
pub record IsNumberAt (bytes : List ℕ) (n : ℕ) (rest : List ℕ) : Type 0 where
  pub whole : bytes ≡ decimal n ++ (32 ∷ rest)
  pub within : n ≤ MAX_NUMBER

on_some : {A B : Type 0} (o : Option A) (f : A → Option B) (b : B) → option_and_then f o ≡ Some b → (a : A) × (o ≡ Some a) × (f a ≡ Some b)
on_some None f b e = absurd cc
on_some (Some a) f b e = (a, refl, e)

map_some : {A B : Type 0} (o : Option A) (f : A → B) (b : B) → option_map f o ≡ Some b → (a : A) × (o ≡ Some a) × (f a ≡ b)
map_some None f b e = absurd cc
map_some (Some a) f b e = (a, refl, cc)

pub number_at-read : (bytes : List ℕ) (n : ℕ) (rest : List ℕ) → number_at bytes ≡ Some (n, rest) → IsNumberAt bytes n rest
number_at-read bytes n rest e =
    let s = on_some (first_word bytes) (λ cut. option_map (λ m. (m, cut.1)) (number_spelled cut.0)) (n, rest) e in
    let m = map_some (number_spelled (s.0).0) (λ k. (k, (s.0).1)) (n, rest) s.2 in
    let w = first_word-whole bytes (s.0).0 (s.0).1 s.1 in
    let d = number-word (s.0).0 m.0 m.1 in
    let k : m.0 ≡ n = ap (λ (p : ℕ × List ℕ). p.0) m.2 in
    let r : (s.0).1 ≡ rest = ap (λ (p : ℕ × List ℕ). p.1) m.2 in
    record {
      whole = w ∙ ap (λ l. l ++ (32 ∷ (s.0).1)) (d.digits ∙ ap decimal k) ∙ ap (λ l. decimal n ++ (32 ∷ l)) r;
      within = let h = d.within in omega (arith, h, k);
    }

-- ---- ranges
pub range_of-spelled : (line : List ℕ) (r : Range) → SpellsRange line r → range_of line ≡ Some r
range_of-spelled line r s =
    let w = s.numbers in
    let name = is_name-IsName r.name s.is_name in
    rw s.text (rw (number_at-written r.from (decimal r.to ++ (32 ∷ (decimal r.level ++ (32 ∷ r.name)))) w.0)
    (rw (number_at-written r.to (decimal r.level ++ (32 ∷ r.name)) w.1.0) (rw (number_at-written r.level r.name w.1.1.0) (rw name refl))))

range_with-some : (from to level : ℕ) (name : List ℕ) (r : Range) (b : Bool) → is_name name ≡ b → range_with from to level name ≡ Some r →
    (is_name name ≡ true) × (r ≡ record { from = from; to = to; level = level; name = name })
range_with-some from to level name r true is e = let f = rw is at e in (is, cc)
range_with-some from to level name r false is e = let f = rw is at e in absurd cc

pub spelled-range_of : (line : List ℕ) (r : Range) → range_of line ≡ Some r → SpellsRange line r
spelled-range_of line r e =
    let a = on_some (number_at line) _ r e in
    let b = on_some (number_at (a.0).1) _ r a.2 in
    let c = on_some (number_at (b.0).1) _ r b.2 in
    let w = range_with-some (a.0).0 (b.0).0 (c.0).0 (c.0).1 r (is_name (c.0).1) refl c.2 in
    let x = number_at-read line (a.0).0 (a.0).1 a.1 in
    let y = number_at-read (a.0).1 (b.0).0 (b.0).1 b.1 in
    let z = number_at-read (b.0).1 (c.0).0 (c.0).1 c.1 in
    rw w.1 (record {
      text = x.whole ∙ ap (λ l. decimal (a.0).0 ++ (32 ∷ l)) (y.whole ∙ ap (λ l. decimal (b.0).0 ++ (32 ∷ l)) z.whole);
      numbers = (x.within, (y.within, (z.within, tt)));
      is_name = IsName-is_name (c.0).1 w.0;
    })

pub no_range : (line : List ℕ) → range_of line ≡ None → IsNoRange line
no_range line e r s = let f = range_of-spelled line r s in absurd cc

-- ---- what has been read
-- the lines of the bytes are those that spell the ranges, and those of the rest
pub record HasRead (bytes : List ℕ) (ranges : List Range) (rest : List ℕ) : Type 0 where
  pub before : List (List ℕ)
  pub is_split : lines_of bytes ≡ before ++ lines_of rest
  pub are_ranges : SpellRanges before ranges
  pub few : length ranges ≤ MAX_RANGES

pub spell-push : (lines : List (List ℕ)) (rs : List Range) (line : List ℕ) (r : Range) → SpellRanges lines rs → SpellsRange line r → SpellRanges (lines ++ line ∷ []) (rs ++ r ∷ [])
spell-push [] [] line r s t = (t, tt)
spell-push [] (q ∷ rs) line r s t = absurd s
spell-push (l ∷ lines) [] line r s t = absurd s
spell-push (l ∷ lines) (q ∷ rs) line r s t = (s.0, spell-push lines rs line r s.1 t)

pub spell-length : (lines : List (List ℕ)) (rs : List Range) → SpellRanges lines rs → length lines ≡ length rs
spell-length [] [] s = refl
spell-length [] (q ∷ rs) s = absurd s
spell-length (l ∷ lines) [] s = absurd s
spell-length (l ∷ lines) (q ∷ rs) s = let h = spell-length lines rs s.1 in omega (arith, h)

pub read-more : (bytes : List ℕ) (ranges : List Range) (rest line more : List ℕ) (r : Range) → HasRead bytes ranges rest → lines_of rest ≡ line ∷ lines_of more → range_of line ≡ Some r →
    (length ranges ≡ MAX_RANGES → ⊥) → HasRead bytes (ranges ++ r ∷ []) more
read-more bytes ranges rest line more r h e s n = record {
  before = h.before ++ line ∷ [];
  is_split = h.is_split ∙ ap (λ l. h.before ++ l) e ∙ sym (append_assoc h.before (line ∷ []) (lines_of more));
  are_ranges = spell-push h.before ranges line r h.are_ranges (spelled-range_of line r s);
  few = let l = length-append ranges (r ∷ []) in let f = h.few in omega (arith, l, f, n);
}

pub read-fault : (bytes : List ℕ) (ranges : List Range) (rest line more : List ℕ) → HasRead bytes ranges rest → lines_of rest ≡ line ∷ lines_of more → range_of line ≡ None →
    (length ranges ≡ MAX_RANGES → ⊥) → IsFirstNoRange bytes (length ranges)
read-fault bytes ranges rest line more h e s n = record {
  before = h.before;
  line = line;
  after = lines_of more;
  ranges = ranges;
  is_split = h.is_split ∙ ap (λ l. h.before ++ l) e;
  are_ranges = h.are_ranges;
  is_number = sym (spell-length h.before ranges h.are_ranges);
  within = let f = h.few in omega (arith, f, n);
  no_range = no_range line s;
}

pub read-too_many : (bytes : List ℕ) (ranges : List Range) (rest line more : List ℕ) → HasRead bytes ranges rest → lines_of rest ≡ line ∷ lines_of more → length ranges ≡ MAX_RANGES → HasTooMany bytes
read-too_many bytes ranges rest line more h e n = record {
  before = h.before;
  line = line;
  after = lines_of more;
  ranges = ranges;
  is_split = h.is_split ∙ ap (λ l. h.before ++ l) e;
  are_ranges = h.are_ranges;
  full = spell-length h.before ranges h.are_ranges ∙ n;
}

spell-names : (lines : List (List ℕ)) (rs : List Range) → SpellRanges lines rs → AreNamed rs
spell-names [] [] s = tt
spell-names [] (q ∷ rs) s = absurd s
spell-names (l ∷ lines) [] s = absurd s
spell-names (l ∷ lines) (q ∷ rs) s = (s.0.is_name, spell-names lines rs s.1)

pub read-named : (bytes : List ℕ) (ranges : List Range) (rest : List ℕ) → HasRead bytes ranges rest → AreNamed ranges
read-named bytes ranges rest h = spell-names h.before ranges h.are_ranges

-- ---- one meaning
same_ranges : (lines : List (List ℕ)) (rs qs : List Range) → SpellRanges lines rs → SpellRanges lines qs → rs ≡ qs
same_ranges [] [] [] s t = refl
same_ranges [] [] (q ∷ qs) s t = absurd t
same_ranges [] (r ∷ rs) qs s t = absurd s
same_ranges (l ∷ lines) [] qs s t = absurd s
same_ranges (l ∷ lines) (r ∷ rs) [] s t = absurd t
same_ranges (l ∷ lines) (r ∷ rs) (q ∷ qs) s t =
    let e = range_of-spelled l r s.0 in
    let f = range_of-spelled l q t.0 in
    let h : r ≡ q = cc in
    let i = same_ranges lines rs qs s.1 t.1 in
    cc

all_spelled : (before : List (List ℕ)) (line : List ℕ) (after : List (List ℕ)) (rs : List Range) → SpellRanges (before ++ line ∷ after) rs → (r : Range) × SpellsRange line r
all_spelled [] line after [] s = absurd s
all_spelled [] line after (r ∷ rs) s = (r, s.0)
all_spelled (l ∷ before) line after [] s = absurd s
all_spelled (l ∷ before) line after (r ∷ rs) s = all_spelled before line after rs s.1

fault_not_spelled : (bytes : List ℕ) (k : ℕ) (lines : List (List ℕ)) (rs : List Range) (f : IsFirstNoRange bytes k) → lines ≡ f.before ++ f.line ∷ f.after → SpellRanges lines rs → ⊥
fault_not_spelled bytes k lines rs f e s = let a = all_spelled f.before f.line f.after rs (subst (λ z. SpellRanges z rs) e s) in f.no_range a.0 a.1

too_many_lines : (bytes : List ℕ) (rs : List Range) → HasTooMany bytes → SpellRanges (lines_of bytes) rs → length rs ≤ MAX_RANGES → ⊥
too_many_lines bytes rs h s few =
    let e = ap length h.is_split in
    let l = length-append h.before (h.line ∷ h.after) in
    let f = h.full in
    let n = spell-length (lines_of bytes) rs s in
    omega (arith, e, l, f, n, few)

one_fault : (bytes : List ℕ) (k j : ℕ) → IsFirstNoRange bytes k → IsFirstNoRange bytes j → k ≡ j
one_fault bytes k j f g = elim (cuts f.before f.line f.after g.before g.line g.after (sym f.is_split ∙ g.is_split)) [
  | inl s ↦ f.is_number ∙ ap length s.0 ∙ sym g.is_number
  | inr o ↦ elim o [
    | inl m ↦ absurd (let a = all_spelled f.before f.line m.0 g.ranges (subst (λ z. SpellRanges z g.ranges) m.1 g.are_ranges) in f.no_range a.0 a.1)
    | inr m ↦ absurd (let a = all_spelled g.before g.line m.0 f.ranges (subst (λ z. SpellRanges z f.ranges) m.1 f.are_ranges) in g.no_range a.0 a.1)
  ]
]

fault_or_limit : (bytes : List ℕ) (k : ℕ) → IsFirstNoRange bytes k → HasTooMany bytes → ⊥
fault_or_limit bytes k f h = elim (cuts f.before f.line f.after h.before h.line h.after (sym f.is_split ∙ h.is_split)) [
  | inl s ↦ (let e = ap length s.0 in let n = f.is_number in let w = f.within in let l = h.full in omega (arith, e, n, w, l))
  | inr o ↦ elim o [
    | inl m ↦ (let a = all_spelled f.before f.line m.0 h.ranges (subst (λ z. SpellRanges z h.ranges) m.1 h.are_ranges) in f.no_range a.0 a.1)
    | inr m ↦ (let e = ap length m.1 in let l = length-append h.before (h.line ∷ m.0) in let n = f.is_number in let w = f.within in let full = h.full in omega (arith, e, l, n, w, full))
  ]
]

pub one_reading : OneReading
one_reading bytes (Ok rs) (Ok qs) m n = ap Ok (same_ranges (lines_of bytes) rs qs m.0 n.0)
one_reading bytes (Ok rs) (Err (Syntax k)) m n = absurd (fault_not_spelled bytes k (lines_of bytes) rs n n.is_split m.0)
one_reading bytes (Ok rs) (Err Limit) m n = absurd (too_many_lines bytes rs n m.0 m.1)
one_reading bytes (Ok rs) (Err NoMemory) m n = absurd n
one_reading bytes (Err (Syntax k)) (Ok qs) m n = absurd (fault_not_spelled bytes k (lines_of bytes) qs m m.is_split n.0)
one_reading bytes (Err (Syntax k)) (Err (Syntax j)) m n = ap (λ z. Err (Syntax z)) (one_fault bytes k j m n)
one_reading bytes (Err (Syntax k)) (Err Limit) m n = absurd (fault_or_limit bytes k m n)
one_reading bytes (Err (Syntax k)) (Err NoMemory) m n = absurd n
one_reading bytes (Err Limit) (Ok qs) m n = absurd (too_many_lines bytes qs m n.0 n.1)
one_reading bytes (Err Limit) (Err (Syntax j)) m n = absurd (fault_or_limit bytes j n m)
one_reading bytes (Err Limit) (Err Limit) m n = refl
one_reading bytes (Err Limit) (Err NoMemory) m n = absurd n
one_reading bytes (Err NoMemory) p m n = absurd m
