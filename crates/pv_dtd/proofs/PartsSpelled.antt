-- A content particle that is spelled is read, where what stands after it can't go on with it.
use Rattle.std.proofs.Common.{◌≡◌, ℕ, zero, suc, ◌≤◌, ◌<◌, List, [], ◌∷◌, ◌++◌, length, codes, ◌||◌, ◌==◌, Bool, false, Some, refl, ap, ◌∙◌, append_assoc, length-append, eq-eqb, arith}
use Rattle.std.proofs.lemmas.Bool.{or_parts}
use Rattle.pv_chars.specs.Spaces.{is_space, IsOptionalSpace}
use Rattle.pv_chars.specs.Scan.{after_space}
use Rattle.pv_chars.proofs.TextScans.{begins, after_space-append}
use Rattle.pv_chars.proofs.Beginnings.{HasNoSpace, begins_behind}
use Rattle.pv_chars.specs.Names.{IsName}
use Rattle.pv_dtd.specs.Items.{NamedPart, name, seq, choice, opt, star, plus, NamedParts, no_parts, part}
use Rattle.pv_dtd.specs.Spelling.{SpellsPart, SpellsGroup, SpellsOthers, IsUnrepeated, member_count, nesting_of, nesting_of_all}
use Rattle.pv_dtd.specs.PartReading.{Reader, word_at, with_operator, more_at, others_at, separator_at, group_of, group_at, bare_from, too_deep, particle_from, bare_at, particle_at}
use Rattle.pv_chars.proofs.NameBytes.{is_name_byte, name_at-append, name_begins, name_not_after}

-- what may go on with a particle: a name's byte or an operator
abbrev pub goes_on : ℕ → Bool
goes_on b = is_name_byte b || (b == 63) || (b == 42) || (b == 43)

pub particles_have_no_space : HasNoSpace goes_on
particles_have_no_space = record { space = refl; tab = refl; return = refl; feed = refl }

-- what begins no particle's rest begins no name's rest
name_ends : (rest : List ℕ) → begins goes_on rest ≡ false → begins is_name_byte rest ≡ false
name_ends [] e = refl
name_ends (b ∷ bs) e = (or_parts (is_name_byte b) (b == 63) (or_parts (is_name_byte b || (b == 63)) (b == 42) (or_parts (is_name_byte b || (b == 63) || (b == 42)) (b == 43) e).0).0).0

no_operator : (p : NamedPart) (rest : List ℕ) → begins goes_on rest ≡ false → with_operator p rest ≡ (p, rest)
unfolding with_operator
no_operator p [] e = refl
no_operator p (b ∷ bs) e =
    let third = or_parts (is_name_byte b || (b == 63) || (b == 42)) (b == 43) e in
    let second = or_parts (is_name_byte b || (b == 63)) (b == 42) third.0 in
    let first = or_parts (is_name_byte b) (b == 63) second.0 in
    rw (first.1, second.1, third.1) refl

-- a particle begins with no space
group_begins : (separator : List ℕ) (ps : NamedParts) (text rest : List ℕ) → SpellsGroup separator ps text → begins is_space (text ++ rest) ≡ false
group_begins separator no_parts text rest s = absurd s
group_begins separator (part p ps) text rest s = rw s.8 refl

longer_begins : (text inner more rest : List ℕ) → text ≡ inner ++ more → begins is_space (inner ++ (more ++ rest)) ≡ false → begins is_space (text ++ rest) ≡ false
longer_begins text inner more rest whole e = rw (whole, append_assoc inner more rest) e

pub part_begins : (p : NamedPart) (text rest : List ℕ) → SpellsPart p text → begins is_space (text ++ rest) ≡ false
part_begins (name n) text rest s = rw s.1 (name_begins n rest s.0)
part_begins (seq ps) text rest s = group_begins (codes ",") ps text rest s
part_begins (choice ps) text rest s = group_begins (codes "|") ps text rest s.1
part_begins (opt p) text rest s = longer_begins text s.0 (codes "?") rest s.3 (part_begins p s.0 (codes "?" ++ rest) s.2)
part_begins (star p) text rest s = longer_begins text s.0 (codes "*") rest s.3 (part_begins p s.0 (codes "*" ++ rest) s.2)
part_begins (plus p) text rest s = longer_begins text s.0 (codes "+") rest s.3 (part_begins p s.0 (codes "+" ++ rest) s.2)

abbrev BareIsRead : NamedPart → List ℕ → Type 0
BareIsRead p text = (depth : ℕ) (rest : List ℕ) → nesting_of p ≤ depth → begins is_name_byte rest ≡ false → bare_at depth (text ++ rest) ≡ Some (p, rest)

abbrev PartIsRead : NamedPart → List ℕ → Type 0
PartIsRead p text = (depth : ℕ) (rest : List ℕ) → nesting_of p ≤ depth → begins goes_on rest ≡ false → particle_at depth (text ++ rest) ≡ Some (p, rest)

word_is_read : (group : Reader NamedPart) (n text : List ℕ) → IsName n → text ≡ n → (rest : List ℕ) → begins is_name_byte rest ≡ false → bare_from group (text ++ rest) ≡ Some (name n, rest)
unfolding word_at
word_is_read group n text is whole rest ends = rw (whole, name_not_after 40 [] n rest refl is, name_at-append n rest is ends) refl

name_is_read : (n text : List ℕ) → IsName n → text ≡ n → BareIsRead (name n) text
unfolding bare_at
name_is_read n text is whole zero rest deep ends = word_is_read too_deep n text is whole rest ends
name_is_read n text is whole (suc depth) rest deep ends = word_is_read (group_at (particle_at depth)) n text is whole rest ends

-- without an operator
bare_is_part : (p : NamedPart) (text : List ℕ) → BareIsRead p text → PartIsRead p text
unfolding particle_from
bare_is_part p text read depth rest deep ends = rw (read depth rest deep (name_ends rest ends), no_operator p rest ends) refl

-- with one
operated_is_part : (p q : NamedPart) (text inner : List ℕ) (b : ℕ) → nesting_of q ≡ nesting_of p →
    is_name_byte b ≡ false → ((rest : List ℕ) → with_operator p (b ∷ rest) ≡ (q, rest)) →
    text ≡ inner ++ b ∷ [] → BareIsRead p inner → PartIsRead q text
unfolding particle_from
operated_is_part p q text inner b deep_as other turns whole read depth rest deep ends =
    let all : text ++ rest ≡ inner ++ b ∷ rest = ap (λ t. t ++ rest) whole ∙ append_assoc inner (b ∷ []) rest in
    rw (all, read depth (b ∷ rest) (rw deep_as at deep) other, turns rest) refl

-- a byte that stands between the members of a group
record IsMark (b : ℕ) : Type 0 where
  no_white : is_space b ≡ false
  no_close : (41 == b) ≡ false
  ends : goes_on b ≡ false

comma : IsMark 44
comma = record { no_white = refl; no_close = refl; ends = refl }

bar : IsMark 124
bar = record { no_white = refl; no_close = refl; ends = refl }

pub regrouped : (before : List ℕ) (separator : ℕ) (space next others end : List ℕ) →
    (before ++ (separator ∷ []) ++ space ++ next ++ others) ++ end ≡ before ++ separator ∷ (space
    ++ (next ++ (others ++ end)))
regrouped before separator space next others end = simp append_assoc

group_regrouped : (before first others after rest : List ℕ) → (codes "(" ++ before ++ first
    ++ others ++ after ++ codes ")") ++ rest ≡ 40 ∷ (before
    ++ (first ++ (others ++ (after ++ (codes ")" ++ rest)))))
group_regrouped before first others after rest = simp append_assoc

-- nothing goes on with a particle that other members or the end follow
others_begin : (separator : ℕ) → IsMark separator → (ps : NamedParts) (text after rest : List ℕ) →
    SpellsOthers (separator ∷ []) ps text → IsOptionalSpace after →
    begins goes_on (text ++ (after ++ (codes ")" ++ rest))) ≡ false
others_begin separator mark no_parts text after rest s space = rw s (begins_behind goes_on particles_have_no_space after (codes ")" ++ rest) space refl)
others_begin separator mark (part p ps) text after rest s space =
    rw (s.8, regrouped s.0 separator s.1 s.2 s.3 (after ++ (codes ")" ++ rest)))
    (begins_behind goes_on particles_have_no_space s.0 _ s.4 mark.ends)

abbrev OthersAreRead : ℕ → NamedParts → List ℕ → Type 0
OthersAreRead separator ps text = (depth : ℕ) (after rest : List ℕ) (steps : ℕ) → nesting_of_all ps ≤ depth → IsOptionalSpace after → length (text ++ (after ++ (codes ")" ++ rest))) < steps →
    others_at (particle_at depth) separator steps (text ++ (after ++ (codes ")" ++ rest))) ≡ Some (ps, rest)

none_are_read : (separator : ℕ) (text : List ℕ) → text ≡ [] → OthersAreRead separator no_parts text
unfolding others_at
none_are_read separator text none depth after rest zero deep space few = absurd (omega arith)
none_are_read separator text none depth after rest (suc steps) deep space few = rw (none, after_space-append after (codes ")" ++ rest) space refl) refl

others_are_read : (separator : ℕ) → IsMark separator → (p : NamedPart) (ps : NamedParts)
    (text before space next others : List ℕ) → IsOptionalSpace before → IsOptionalSpace space →
    SpellsPart p next → SpellsOthers (separator ∷ []) ps others → text ≡ before ++ (separator ∷ [])
    ++ space ++ next ++ others →
    PartIsRead p next → OthersAreRead separator ps others → OthersAreRead separator (part p ps) text
unfolding others_at more_at
others_are_read separator mark p ps text before space next others b c s t whole first below depth after rest zero deep d few = absurd (omega arith)
others_are_read separator mark p ps text before space next others b c s t whole first below depth after rest (suc steps) deep d few =
    let end = after ++ (codes ")" ++ rest) in
    let all : text ++ end ≡ before ++ separator ∷ (space ++ (next ++ (others ++ end))) = ap (λ u. u ++ end) whole ∙ regrouped before separator space next others end in
    let inner = next ++ (others ++ end) in
    let at_mark : after_space (text ++ end) ≡ separator ∷ (space ++ inner) = ap after_space all ∙ after_space-append before (separator ∷ (space ++ inner)) b mark.no_white in
    let at_next : after_space (space ++ inner) ≡ inner = after_space-append space inner c (part_begins p next (others ++ end) s) in
    let shallow : nesting_of p ≤ depth = omega arith in
    let read_first = first depth (others ++ end) shallow (others_begin separator mark ps others after rest t d) in
    let lengths = simp length-append at (ap length all) in
    let few_left = simp length-append at few in
    let shorter : length (others ++ end) < steps = simp length-append (omega (arith, lengths, few_left)) in
    let shallow_rest : nesting_of_all ps ≤ depth = omega arith in
    let read_rest = below depth after rest steps shallow_rest d shorter in
    rw (at_mark, mark.no_close, eq-eqb separator separator refl, at_next, read_first, read_rest) refl

comma_stands : (ps : NamedParts) (others after rest : List ℕ) → SpellsOthers (44 ∷ []) ps others → IsOptionalSpace after → separator_at (after_space (others ++ (after ++ (codes ")" ++ rest)))) ≡ 44
unfolding separator_at
comma_stands no_parts others after rest s space = rw (s, after_space-append after (codes ")" ++ rest) space refl) refl
comma_stands (part p ps) others after rest s space =
    rw (
      s.8,
      regrouped s.0 44 s.1 s.2 s.3 (after ++ (codes ")" ++ rest)),
      after_space-append s.0
          (44 ∷ (s.1 ++ (s.2 ++ (s.3 ++ (after ++ (codes ")" ++ rest)))))) s.4 refl,
    ) refl

bar_stands : (ps : NamedParts) (others after rest : List ℕ) → 1 ≤ member_count ps → SpellsOthers (124 ∷ []) ps others → separator_at (after_space (others ++ (after ++ (codes ")" ++ rest)))) ≡ 124
unfolding separator_at
bar_stands no_parts others after rest some s = absurd (omega arith)
bar_stands (part p ps) others after rest some s =
    rw (
      s.8,
      regrouped s.0 124 s.1 s.2 s.3 (after ++ (codes ")" ++ rest)),
      after_space-append s.0
          (124 ∷ (s.1 ++ (s.2 ++ (s.3 ++ (after ++ (codes ")" ++ rest)))))) s.4 refl,
    ) refl

module _ (separator : ℕ) (p : NamedPart) (ps : NamedParts) (text before first others after : List ℕ)
    (whole : text ≡ codes "(" ++ before ++ first ++ others ++ after ++ codes ")")
    (b : IsOptionalSpace before) (s : SpellsPart p first) (t : SpellsOthers (separator ∷ []) ps
    others) (a : IsOptionalSpace after)
    (mark : IsMark separator) (stands : (rest : List ℕ) →
    separator_at (after_space (others ++ (after ++ (codes ")" ++ rest)))) ≡ separator)
    (member : PartIsRead p first) (more : OthersAreRead separator ps others) where
  group_is_read : (depth : ℕ) (rest : List ℕ) → nesting_of p ≤ depth → nesting_of_all ps ≤ depth → bare_at (suc depth) (text ++ rest) ≡ Some (group_of separator (part p ps), rest)
  unfolding bare_at group_at
  group_is_read depth rest shallow shallow_rest =
      let behind_first = others ++ (after ++ (codes ")" ++ rest)) in
      let inside = before ++ (first ++ behind_first) in
      let all : text ++ rest ≡ 40 ∷ inside = ap (λ u. u ++ rest) whole ∙ group_regrouped before first others after rest in
      let at_first : after_space inside ≡ first ++ behind_first = after_space-append before (first ++ behind_first) b (part_begins p first behind_first s) in
      let read_first = member depth behind_first shallow (others_begin separator mark ps others after rest t a) in
      let few : length behind_first < suc (length behind_first) = omega arith in
      let read_rest = more depth after rest (suc (length behind_first)) shallow_rest a few in
      rw (all, at_first, read_first, stands rest, read_rest) refl

abbrev GroupIsRead : NamedPart → List ℕ → Type 0
GroupIsRead q text = (depth : ℕ) (rest : List ℕ) → nesting_of q ≤ suc depth → bare_at (suc depth) (text ++ rest) ≡ Some (q, rest)

group_is_bare : (q : NamedPart) (text : List ℕ) → 1 ≤ nesting_of q → GroupIsRead q text → BareIsRead q text
group_is_bare q text some read zero rest deep ends = absurd (omega arith)
group_is_bare q text some read (suc depth) rest deep ends = read depth rest deep

mutual
  unfolding with_operator

  pub part_is_read : (p : NamedPart) (text : List ℕ) → SpellsPart p text → PartIsRead p text
  part_is_read (name n) text s = bare_is_part (name n) text (name_is_read n text s.0 s.1)
  part_is_read (seq ps) text s = bare_is_part (seq ps) text (seq_is_read ps text s)
  part_is_read (choice ps) text s = bare_is_part (choice ps) text (choice_is_read ps text s.0 s.1)
  part_is_read (opt p) text s = operated_is_part p (opt p) text s.0 63 refl refl (λ rest. refl) s.3 (bare_is_read p s.0 s.1 s.2)
  part_is_read (star p) text s = operated_is_part p (star p) text s.0 42 refl refl (λ rest. refl) s.3 (bare_is_read p s.0 s.1 s.2)
  part_is_read (plus p) text s = operated_is_part p (plus p) text s.0 43 refl refl (λ rest. refl) s.3 (bare_is_read p s.0 s.1 s.2)

  bare_is_read : (p : NamedPart) (text : List ℕ) → IsUnrepeated p → SpellsPart p text → BareIsRead p text
  bare_is_read (name n) text bare s = name_is_read n text s.0 s.1
  bare_is_read (seq ps) text bare s = seq_is_read ps text s
  bare_is_read (choice ps) text bare s = choice_is_read ps text s.0 s.1
  bare_is_read (opt p) text bare s = absurd bare
  bare_is_read (star p) text bare s = absurd bare
  bare_is_read (plus p) text bare s = absurd bare

  seq_is_read : (ps : NamedParts) (text : List ℕ) → SpellsGroup (codes ",") ps text → BareIsRead (seq ps) text
  seq_is_read no_parts text s = absurd s
  seq_is_read (part p ps) text s =
      group_is_bare (seq (part p ps)) text (omega arith) (λ depth rest deep.
      group_is_read 44 p ps text s.0 s.1 s.2 s.3 s.8 s.4 s.5 s.6 s.7 comma
      (λ rest. comma_stands ps s.2 s.3 rest s.6 s.7) (part_is_read p s.1 s.5)
      (others_are_all_read 44 comma ps s.2 s.6) depth rest (omega arith) (omega arith))

  choice_is_read : (ps : NamedParts) (text : List ℕ) → 2 ≤ member_count ps → SpellsGroup (codes "|") ps text → BareIsRead (choice ps) text
  choice_is_read no_parts text two s = absurd s
  choice_is_read (part p ps) text two s =
      group_is_bare (choice (part p ps)) text (omega arith) (λ depth rest deep.
      group_is_read 124 p ps text s.0 s.1 s.2 s.3 s.8 s.4 s.5 s.6 s.7 bar
      (λ rest. bar_stands ps s.2 s.3 rest (omega arith) s.6) (part_is_read p s.1 s.5)
      (others_are_all_read 124 bar ps s.2 s.6) depth rest (omega arith) (omega arith))

  others_are_all_read : (separator : ℕ) → IsMark separator → (ps : NamedParts) (text : List ℕ) → SpellsOthers (separator ∷ []) ps text → OthersAreRead separator ps text
  others_are_all_read separator mark no_parts text s = none_are_read separator text s
  others_are_all_read separator mark (part p ps) text s =
      others_are_read separator mark p ps text s.0 s.1 s.2 s.3 s.4 s.5 s.6 s.7 s.8 (part_is_read p s.2 s.6) (others_are_all_read separator mark ps s.3 s.7)
