-- How many parentheses are open at most, by how deep groups stand.
use Rattle.std.proofs.Common.{◌≡◌, ◌≤◌, inl, inr, ℕ, suc, ◌+◌, max, List, [], ◌∷◌, ◌++◌, codes, Bool, true, false, ◌||◌, ◌==◌, not, cond, None, refl, sym, ap, ◌∙◌, append_assoc, append-nil, arith}
use Rattle.std.specs.Prelude.{nat_eq}
use Rattle.std.specs.List.{list_all}
use Rattle.std.proofs.lemmas.Bool.{and_parts}
use Rattle.std.proofs.lemmas.List.Folds.{list_any-append}
use Rattle.pv_chars.specs.Scan.{after_bytes}
use Rattle.pv_chars.proofs.TextScans.{after_bytes-append}
use Rattle.pv_dtd.specs.Facts.{MAX_NESTING}
use Rattle.pv_dtd.specs.Items.{NamedPart, name, seq, choice, opt, star, plus, NamedParts, no_parts, part, NamedModel, empty, any, mixed, children}
use Rattle.pv_dtd.specs.Items.{DtdItem, text_declaration, element, skipped, comment, instruction}
use Rattle.pv_dtd.specs.Spelling.{StandsAt, SpellsPart, SpellsGroup, SpellsOthers, SpellsMixed, SpellsModel, SpellsElement, IsSkippedWord, nesting_of, nesting_of_all}
use Rattle.pv_chars.specs.Declarations.{is_one_of}
use Rattle.pv_dtd.specs.Kinds.{IsTooDeep, how_many}
use Rattle.pv_dtd.specs.SoFar.{IsShallow, IsShallowItem}
use Rattle.pv_chars.proofs.CharFacts.{comment_opens, instruction_opens}
use Rattle.pv_dtd.proofs.AllBytes.{PassWords, all_in_mixed, mixed_regrouped, inside_element, element_whole}
use Rattle.pv_dtd.proofs.GroupDepths.{IsLevel, is_mark, how_many-append, level-append, plain_level}
use Rattle.pv_dtd.proofs.GroupDepths.{plain_space, plain_name, space_level, opened_level}
use Rattle.pv_dtd.proofs.GroupDepths.{part_level, others_level, group_regrouped, others_regrouped}

-- a front of two texts joined is a front of the first, or the first and a front of the second
pub data FrontOf (a b before rest : List ℕ) : Type 0 where
  within : (more : List ℕ) → a ≡ before ++ more → FrontOf a b before rest
  beyond : (middle : List ℕ) → before ≡ a ++ middle → b ≡ middle ++ rest → FrontOf a b before rest

pub front_of : (a b before rest : List ℕ) → a ++ b ≡ before ++ rest → FrontOf a b before rest
front_of [] b before rest e = beyond before refl e
front_of (x ∷ xs) b [] rest e = within (x ∷ xs) refl
front_of (x ∷ xs) b (y ∷ ys) rest e =
    let same : x ≡ y = cc in
    let others : xs ++ b ≡ ys ++ rest = cc in
    by same (front_of xs b ys rest others)
  where
    by : x ≡ y → FrontOf xs b ys rest → FrontOf (x ∷ xs) b (y ∷ ys) rest
    by same (within more is) = within more (cc)
    by same (beyond middle is others) = beyond middle (cc) others

-- at each place of the text, at most so many more are open than at its front
abbrev pub IsBounded : ℕ → List ℕ → Type 0
IsBounded n text = (before rest : List ℕ) → text ≡ before ++ rest → how_many 40 before ≤ n + how_many 41 before

bounded_more : (m n : ℕ) (text : List ℕ) → m ≤ n → IsBounded m text → IsBounded n text
bounded_more m n text less f before rest e = omega (arith, less, f before rest e)

bounded-append : (n : ℕ) (a b : List ℕ) → IsLevel a → IsBounded n a → IsBounded n b → IsBounded n (a ++ b)
bounded-append n a b level f g before rest e = by (front_of a b before rest e)
  where
    by : FrontOf a b before rest → how_many 40 before ≤ n + how_many 41 before
    by (within more is) = f before more is
    by (beyond middle is others) = omega (arith, level.level, g middle rest others, ap (how_many 40) is, ap (how_many 41) is, how_many-append 40 a middle, how_many-append 41 a middle)

-- a text in which none opens
bounded_none : (text : List ℕ) → how_many 40 text ≡ 0 → IsBounded 0 text
bounded_none text none before rest e = omega (arith, none, ap (how_many 40) e, how_many-append 40 before rest)

none_opens : (text : List ℕ) → list_all (λ b. not (is_mark b)) text ≡ true → how_many 40 text ≡ 0
none_opens [] all = refl
none_opens (b ∷ bs) all =
    let here = and_parts (not (is_mark b)) (list_all (λ b. not (is_mark b)) bs) all in
    by (b == 40) refl here.0 (none_opens bs here.1)
  where
    by : (opens : Bool) → (b == 40) ≡ opens → not (opens || (b == 41) || (b == 62)) ≡ true → how_many 40 bs ≡ 0 → cond opens (suc (how_many 40 bs)) (how_many 40 bs) ≡ 0
    by true is e below = cc
    by false is e below = below

pub plain_bounded : (n : ℕ) (text : List ℕ) → list_all (λ b. not (is_mark b)) text ≡ true → IsBounded n text
plain_bounded n text all = bounded_more 0 n text (omega arith) (bounded_none text (none_opens text all))

-- a group
bounded_in : (n : ℕ) (inner : List ℕ) → IsLevel inner → IsBounded n inner → IsBounded (suc n) (40 ∷ (inner ++ codes ")"))
bounded_in n inner level f [] rest e = omega arith
bounded_in n inner level f (b ∷ bs) rest e =
    let first : 40 ≡ b = cc in
    let others : inner ++ codes ")" ≡ bs ++ rest = cc in
    rw (← first) (by (front_of inner (codes ")") bs rest others))
  where
    by : FrontOf inner (codes ")") bs rest → suc (how_many 40 bs) ≤ suc n + how_many 41 bs
    by (within more is) = omega (arith, f bs more is)
    by (beyond middle is last) =
        let none : how_many 40 (codes ")") ≡ 0 = refl in
        omega (
          arith,
          none,
          level.level,
          ap (how_many 40) last,
          how_many-append 40 middle rest,
          ap (how_many 40) is,
          ap (how_many 41) is,
          how_many-append 40 inner middle,
          how_many-append 41 inner middle,
        )

mutual
  part_bounded : (p : NamedPart) (text : List ℕ) → SpellsPart p text → IsBounded (nesting_of p) text
  part_bounded (name n) text s = rw s.1 (plain_bounded 0 n (plain_name n s.0))
  part_bounded (seq ps) text s = group_bounded (codes ",") ps text refl s
  part_bounded (choice ps) text s = group_bounded (codes "|") ps text refl s.1
  part_bounded (opt p) text s = rw s.3 (bounded-append (nesting_of p) s.0 (codes "?") (part_level p s.0 s.2) (part_bounded p s.0 s.2) (plain_bounded (nesting_of p) (codes "?") refl))
  part_bounded (star p) text s = rw s.3 (bounded-append (nesting_of p) s.0 (codes "*") (part_level p s.0 s.2) (part_bounded p s.0 s.2) (plain_bounded (nesting_of p) (codes "*") refl))
  part_bounded (plus p) text s = rw s.3 (bounded-append (nesting_of p) s.0 (codes "+") (part_level p s.0 s.2) (part_bounded p s.0 s.2) (plain_bounded (nesting_of p) (codes "+") refl))

  group_bounded : (separator : List ℕ) (ps : NamedParts) (text : List ℕ) → list_all (λ b. not (is_mark b)) separator ≡ true → SpellsGroup separator ps text → IsBounded (suc (nesting_of_all ps)) text
  group_bounded separator no_parts text plain s = absurd s
  group_bounded separator (part p ps) text plain s =
      let n = max (nesting_of p) (nesting_of_all ps) in
      let behind = s.2 ++ s.3 in
      let behind_level : IsLevel behind = level-append s.2 s.3 (others_level separator ps s.2 plain s.6) (space_level s.3 s.7) in
      let first : IsBounded n s.1 = bounded_more (nesting_of p) n s.1 (omega arith) (part_bounded p s.1 s.5) in
      let others : IsBounded n s.2 = bounded_more (nesting_of_all ps) n s.2 (omega arith) (others_bounded separator ps s.2 plain s.6) in
      let behind_bounded = bounded-append n s.2 s.3 (others_level separator ps s.2 plain s.6) others (plain_bounded n s.3 (plain_space s.3 s.7)) in
      let all = bounded-append n s.0 (s.1 ++ behind) (space_level s.0 s.4) (plain_bounded n s.0 (plain_space s.0 s.4)) (bounded-append n s.1 behind (part_level p s.1 s.5) first behind_bounded) in
      rw (s.8, group_regrouped s.0 s.1 s.2 s.3) (bounded_in n (s.0 ++ (s.1 ++ behind))
      (level-append s.0 (s.1 ++ behind) (space_level s.0 s.4) (level-append s.1 behind
      (part_level p s.1 s.5) behind_level)) all)

  others_bounded : (separator : List ℕ) (ps : NamedParts) (text : List ℕ) → list_all (λ b. not (is_mark b)) separator ≡ true → SpellsOthers separator ps text → IsBounded (nesting_of_all ps) text
  others_bounded separator no_parts text plain s = rw s (bounded_none [] refl)
  others_bounded separator (part p ps) text plain s =
      let n = max (nesting_of p) (nesting_of_all ps) in
      let next : IsBounded n s.2 = bounded_more (nesting_of p) n s.2 (omega arith) (part_bounded p s.2 s.6) in
      let others : IsBounded n s.3 = bounded_more (nesting_of_all ps) n s.3 (omega arith) (others_bounded separator ps s.3 plain s.7) in
      rw (s.8, others_regrouped s.0 separator s.1 s.2 s.3) (bounded-append n s.0 (separator ++ (s.1 ++ (s.2 ++ s.3))) (space_level s.0 s.4) (plain_bounded n s.0 (plain_space s.0 s.4))
      (bounded-append n separator (s.1 ++ (s.2 ++ s.3)) (plain_level separator plain) (plain_bounded n separator plain)
      (bounded-append n s.1 (s.2 ++ s.3) (space_level s.1 s.5) (plain_bounded n s.1 (plain_space s.1 s.5)) (bounded-append n s.2 s.3 (part_level p s.2 s.6) next others))))

-- a text without '>' whose parentheses stand no deeper than the limit
record IsCalm (text : List ℕ) : Type 0 where
  unclosed : is_one_of text 62 ≡ false
  level : how_many 40 text ≡ how_many 41 text
  bounded : IsBounded MAX_NESTING text

calm_of : (text : List ℕ) → IsLevel text → IsBounded MAX_NESTING text → IsCalm text
calm_of text l b = record { unclosed = l.unclosed; level = l.level; bounded = b }

calm-append : (a b : List ℕ) → IsCalm a → IsCalm b → IsCalm (a ++ b)
calm-append a b e f =
    let level : IsLevel a = record { unclosed = e.unclosed; level = e.level } in
    let both = level-append a b level record { unclosed = f.unclosed; level = f.level } in
    record { unclosed = both.unclosed; level = both.level; bounded = bounded-append MAX_NESTING a b level e.bounded f.bounded }

plain_calm : (text : List ℕ) → list_all (λ b. not (is_mark b)) text ≡ true → IsCalm text
plain_calm text all = calm_of text (plain_level text all) (plain_bounded MAX_NESTING text all)

calm_in : (inner : List ℕ) → list_all (λ b. not (is_mark b)) inner ≡ true → IsCalm (40 ∷ (inner ++ codes ")"))
calm_in inner all = calm_of _ (opened_level inner (plain_level inner all)) (bounded_more 1 MAX_NESTING _ (omega arith) (bounded_in 0 inner (plain_level inner all) (plain_bounded 0 inner all)))

plain_words : PassWords (λ b. not (is_mark b))
plain_words = record { space = plain_space; name = plain_name }

mixed_calm : (names : List (List ℕ)) (end text : List ℕ) → list_all (λ b. not (is_mark b)) end ≡ true → SpellsMixed names (codes ")" ++ end) text → IsCalm text
mixed_calm names end text plain s =
    rw (s.whole, mixed_regrouped s.before s.listed s.after end) (calm-append _ end (calm_in (s.before ++ (codes "#PCDATA" ++ (s.listed ++ s.after)))
    (all_in_mixed (λ b. not (is_mark b)) plain_words refl refl names (codes ")" ++ end) text s)) (plain_calm end plain))

model_calm : (m : NamedModel) (text : List ℕ) → SpellsModel m text → IsShallow m → IsCalm text
model_calm empty text s shallow = rw s (plain_calm (codes "EMPTY") refl)
model_calm any text s shallow = rw s (plain_calm (codes "ANY") refl)
model_calm (mixed names) text (inl s) shallow = mixed_calm names (codes "*") text refl s
model_calm (mixed names) text (inr s) shallow = mixed_calm names [] text refl s.1
model_calm (children p) text s shallow = calm_of text (part_level p text s.1) (bounded_more (nesting_of p) MAX_NESTING text shallow (part_bounded p text s.1))

element_calm : (n : List ℕ) (m : NamedModel) (text : List ℕ) (s : SpellsElement n m text) → IsShallow m → IsCalm (inside_element n m text s)
element_calm n m text s shallow =
    calm-append s.before_name (n ++ (s.before_spec ++ (s.spec ++ s.after)))
    (plain_calm s.before_name (plain_space s.before_name s.space_before_name.space))
    (calm-append n (s.before_spec ++ (s.spec ++ s.after)) (plain_calm n (plain_name n s.is_name))
    (calm-append s.before_spec (s.spec ++ s.after) (plain_calm s.before_spec
    (plain_space s.before_spec s.space_before_spec.space)) (calm-append s.spec s.after
    (model_calm m s.spec s.is_spec shallow) (plain_calm s.after (plain_space s.after s.space_after)))))

-- after the word
same_behind_word : (a b : List ℕ) → codes "<!ELEMENT" ++ a ≡ codes "<!ELEMENT" ++ b → a ≡ b
same_behind_word a b e = cc

-- the front before the first '>' is a front of such a text
calm_front : (inside before rest more : List ℕ) → IsCalm inside → inside ++ 62 ∷ more ≡ before ++ rest → not (is_one_of before 62) ≡ true → how_many 40 before ≤ MAX_NESTING + how_many 41 before
calm_front inside before rest more calm e unclosed = by (front_of inside (62 ∷ more) before rest e)
  where
    closed : (middle : List ℕ) → before ≡ inside ++ middle → 62 ∷ more ≡ middle ++ rest → how_many 40 before ≤ MAX_NESTING + how_many 41 before
    closed [] is others = calm.bounded before [] (sym (is ∙ append-nil inside) ∙ sym (append-nil before))
    closed (b ∷ bs) is others =
        let stop : 62 ≡ b = cc in
        let held : is_one_of before 62 ≡ true = ap (λ t. is_one_of t 62) is ∙ list_any-append (nat_eq 62) inside (b ∷ bs) ∙ rw (← stop) (or_true (is_one_of inside 62)) in
        let not_held : not (is_one_of before 62) ≡ false = rw held refl in
        cc
      where
        or_true : (test : Bool) → (test || true) ≡ true
        or_true true = refl
        or_true false = refl

    by : FrontOf inside (62 ∷ more) before rest → how_many 40 before ≤ MAX_NESTING + how_many 41 before
    by (within behind is) = calm.bounded before behind is
    by (beyond middle is others) = closed middle is others

element_not_deep : (n : List ℕ) (m : NamedModel) (place text rest : List ℕ) → place ≡ text ++ rest → SpellsElement n m text → IsShallow m → IsTooDeep place → ⊥
element_not_deep n m place text rest whole s shallow deep =
    let same : inside_element n m text s ++ (62 ∷ rest) ≡ deep.before ++ deep.rest = same_behind_word _ _ (sym (element_whole n m text rest s) ∙ sym whole ∙ deep.whole) in
    let few = calm_front (inside_element n m text s) deep.before deep.rest rest (element_calm n m text s shallow) same deep.unclosed in
    let many = deep.deep in
    absurd (omega (arith, few, many))

-- a place that begins otherwise
not_element : (place : List ℕ) → after_bytes (codes "<!ELEMENT") place ≡ None → IsTooDeep place → ⊥
not_element place none deep =
    let some = after_bytes-append (codes "<!ELEMENT") (deep.before ++ deep.rest) in
    let at = ap (after_bytes (codes "<!ELEMENT")) (deep.whole ∙ append_assoc (codes "<!ELEMENT") deep.before deep.rest) in
    cc

-- where groups stand no deeper than the limit, no place is too deep
pub begins_not_deep : (front : Bool) (place : List ℕ) (i : DtdItem) (rest : List ℕ) → StandsAt front place i rest → IsShallowItem i → IsTooDeep place → ⊥
begins_not_deep front place (element n model) rest b shallow deep = element_not_deep n model place b.text rest b.whole b.spelled shallow deep
begins_not_deep front place text_declaration rest b shallow deep = not_element place (rw (b.whole, b.spelled.whole) refl) deep
begins_not_deep front place skipped rest b shallow deep = not_element place (by b.spelled.word b.spelled.is_word b.spelled.whole) deep
  where
    by : (word : List ℕ) → IsSkippedWord word → b.text ≡ word ++ b.spelled.before ++ b.spelled.inside ++ codes ">" → after_bytes (codes "<!ELEMENT") place ≡ None
    by word (inl is) w = rw (b.whole, w, is) refl
    by word (inr (inl is)) w = rw (b.whole, w, is) refl
    by word (inr (inr is)) w = rw (b.whole, w, is) refl
begins_not_deep front place comment rest b shallow deep = not_element place (rw (b.whole, (comment_opens b.text b.spelled).1) refl) deep
begins_not_deep front place instruction rest b shallow deep = not_element place (rw (b.whole, (instruction_opens b.text b.spelled).1) refl) deep
