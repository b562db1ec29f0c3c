-- A content model that is spelled is read, where what stands after it can't go on with it.
use Rattle.std.proofs.Common.{◌≡◌, ℕ, zero, suc, ◌≤◌, ◌<◌, inl, inr, List, [], ◌∷◌, ◌++◌, length, codes, ◌==◌, Bool, true, false, Some, None, refl, sym, ap, ◌∙◌, append_assoc, length-append, arith}
use Rattle.std.proofs.lemmas.Bool.Decides.{Decides-eqb}
use Rattle.pv_chars.specs.Spaces.{is_space, IsOptionalSpace}
use Rattle.pv_chars.specs.Scan.{after_space, after_bytes}
use Rattle.pv_chars.proofs.TextScans.{begins, after_space-append}
use Rattle.pv_chars.proofs.Beginnings.{begins_behind}
use Rattle.pv_dtd.specs.Facts.{MAX_NESTING}
use Rattle.pv_dtd.specs.Items.{NamedPart, name, seq, choice, opt, star, plus, NamedParts, no_parts, part, NamedModel, empty, any, mixed, children}
use Rattle.pv_dtd.specs.Spelling.{SpellsPart, SpellsGroup, SpellsListed, SpellsMixed, SpellsModel, IsGroup, nesting_of}
use Rattle.pv_dtd.specs.PartReading.{particle_at}
use Rattle.pv_dtd.specs.ItemReading.{listed_at, after_end, mixed_at, children_at, group_model_at, model_at}
use Rattle.pv_chars.proofs.NameBytes.{is_name_byte, names_have_no_space, name_begins, name_not_after, name_at-append}
use Rattle.pv_dtd.specs.SoFar.{IsShallow}
use Rattle.pv_dtd.proofs.PartsSpelled.{goes_on, part_begins, part_is_read, regrouped}

-- no name goes on where other names, space or the end stand after it
listed_begin : (names : List (List ℕ)) (text after rest : List ℕ) → SpellsListed names text → IsOptionalSpace after → begins is_name_byte (text ++ (after ++ (codes ")" ++ rest))) ≡ false
listed_begin [] text after rest s space = rw s (begins_behind is_name_byte names_have_no_space after (codes ")" ++ rest) space refl)
listed_begin (n ∷ ns) text after rest s space = rw (s.7, regrouped s.0 124 s.1 n s.2 (after ++ (codes ")" ++ rest))) (begins_behind is_name_byte names_have_no_space s.0 _ s.3 refl)

listed_are_read : (names : List (List ℕ)) (text : List ℕ) → SpellsListed names text →
    (after rest : List ℕ) (steps : ℕ) → IsOptionalSpace after →
    length (text ++ (after ++ (codes ")" ++ rest))) < steps →
    listed_at steps (text ++ (after ++ (codes ")" ++ rest))) ≡ Some (names, codes ")" ++ rest)
unfolding listed_at
listed_are_read names text s after rest zero space few = absurd (omega arith)
listed_are_read [] text s after rest (suc steps) space few = rw (s, after_space-append after (codes ")" ++ rest) space refl) refl
listed_are_read (n ∷ ns) text s after rest (suc steps) space few =
    let end = after ++ (codes ")" ++ rest) in
    let inner = n ++ (s.2 ++ end) in
    let all : text ++ end ≡ s.0 ++ 124 ∷ (s.1 ++ inner) = ap (λ u. u ++ end) s.7 ∙ regrouped s.0 124 s.1 n s.2 end in
    let at_bar : after_space (text ++ end) ≡ 124 ∷ (s.1 ++ inner) = ap after_space all ∙ after_space-append s.0 (124 ∷ (s.1 ++ inner)) s.3 refl in
    let at_name : after_space (s.1 ++ inner) ≡ inner = after_space-append s.1 inner s.4 (name_begins n (s.2 ++ end) s.5) in
    let read_name = name_at-append n (s.2 ++ end) s.5 (listed_begin ns s.2 after rest s.6 space) in
    let lengths = simp length-append at (ap length all) in
    let few_left = simp length-append at few in
    let shorter : length (s.2 ++ end) < steps = simp length-append (omega (arith, lengths, few_left)) in
    let read_rest = listed_are_read ns s.2 s.6 after rest steps space shorter in
    rw (at_bar, at_name, read_name, read_rest) refl

mixed_regrouped : (before listed after end rest : List ℕ) → (codes "(" ++ before ++ codes "#PCDATA"
    ++ listed ++ after ++ end) ++ rest ≡ 40 ∷ (before ++ (codes "#PCDATA"
    ++ (listed ++ (after ++ (end ++ rest)))))
mixed_regrouped before listed after end rest = simp append_assoc

-- a mixed model whose end, after its ')', is this
mixed_is_read : (names : List (List ℕ)) (end text : List ℕ) (close : List ℕ) →
    SpellsMixed names end text → end ≡ codes ")" ++ close → (rest : List ℕ) →
    after_end names (close ++ rest) (after_bytes (codes "*") (close ++ rest)) ≡ Some rest →
    model_at (text ++ rest) ≡ Some (mixed names, rest)
unfolding model_at group_model_at mixed_at
mixed_is_read names end text close s is rest ends =
    let behind = s.listed ++ (s.after ++ (codes ")" ++ (close ++ rest))) in
    let all : text ++ rest ≡ 40 ∷ (s.before ++ (codes "#PCDATA" ++ behind)) =
    ap (λ u. u ++ rest) s.whole ∙ mixed_regrouped s.before s.listed s.after end rest
    ∙ ap (λ u. 40 ∷ (s.before ++ (codes "#PCDATA" ++ (s.listed ++ (s.after ++ (u ++ rest)))))) is in
    let at_data : after_space (s.before ++ (codes "#PCDATA" ++ behind)) ≡ codes "#PCDATA" ++ behind = after_space-append s.before (codes "#PCDATA" ++ behind) s.space_before refl in
    let read = listed_are_read names s.listed s.names_listed s.after (close ++ rest) (suc (length behind)) s.space_after (omega arith) in
    rw (all, at_data, read, ends) refl

mixed_ends_by_star : (names : List (List ℕ)) (rest : List ℕ) → after_end names (codes "*" ++ rest) (after_bytes (codes "*") (codes "*" ++ rest)) ≡ Some rest
mixed_ends_by_star names rest = refl

star_goes_on : (b : ℕ) (same : Bool) → (42 == b) ≡ same → goes_on b ≡ false → same ≡ false
star_goes_on b true is e = let at : goes_on 42 ≡ goes_on b = ap goes_on ((Decides-eqb 42 b).0 is) in cc
star_goes_on b false is e = refl

no_star : (rest : List ℕ) → begins goes_on rest ≡ false → after_bytes (codes "*") rest ≡ None
no_star [] e = refl
no_star (b ∷ bs) e = rw (star_goes_on b (42 == b) refl e) refl

-- no particle begins with '#'
no_data : (more : List ℕ) (p : NamedPart) (text rest : List ℕ) → SpellsPart p text → after_bytes (35 ∷ more) (text ++ rest) ≡ None
no_data more (name n) text rest s = rw s.1 (name_not_after 35 more n rest refl s.0)
no_data more (seq no_parts) text rest s = absurd s
no_data more (seq (part p ps)) text rest s = rw s.8 refl
no_data more (choice no_parts) text rest s = absurd s.1
no_data more (choice (part p ps)) text rest s = let whole = s.1.8 in rw whole refl
no_data more (opt p) text rest s = rw (s.3, append_assoc s.0 (codes "?") rest) (no_data more p s.0 (codes "?" ++ rest) s.2)
no_data more (star p) text rest s = rw (s.3, append_assoc s.0 (codes "*") rest) (no_data more p s.0 (codes "*" ++ rest) s.2)
no_data more (plus p) text rest s = rw (s.3, append_assoc s.0 (codes "+") rest) (no_data more p s.0 (codes "+" ++ rest) s.2)

-- a group begins with '(', and no #PCDATA stands after that
record Opens (text : List ℕ) : Type 0 where
  inside : List ℕ
  opened : text ≡ codes "(" ++ inside
  particle : (rest : List ℕ) → after_bytes (codes "#PCDATA") (after_space (inside ++ rest)) ≡ None

inside_regrouped : (before first others after : List ℕ) → codes "(" ++ before ++ first ++ others ++ after ++ codes ")" ≡ codes "(" ++ (before ++ (first ++ (others ++ (after ++ codes ")"))))
inside_regrouped before first others after = simp append_assoc

rest_regrouped : (before first others after rest : List ℕ) → (before ++ (first ++ (others ++ (after ++ codes ")")))) ++ rest ≡ before ++ (first ++ (others ++ (after ++ (codes ")" ++ rest))))
rest_regrouped before first others after rest = simp append_assoc

members_open : (separator : List ℕ) (ps : NamedParts) (text : List ℕ) → SpellsGroup separator ps text → Opens text
members_open separator no_parts text s = absurd s
members_open separator (part p ps) text s = record {
  inside = s.0 ++ (s.1 ++ (s.2 ++ (s.3 ++ codes ")")));
  opened = s.8 ∙ inside_regrouped s.0 s.1 s.2 s.3;
  particle = λ rest. let behind = s.2 ++ (s.3 ++ (codes ")" ++ rest)) in
      rw (rest_regrouped s.0 s.1 s.2 s.3 rest, after_space-append s.0 (s.1 ++ behind) s.4 (part_begins p s.1 behind s.5)) (no_data (codes "PCDATA") p s.1 behind s.5);
}

more_opens : (text inner : List ℕ) (operator : List ℕ) → text ≡ inner ++ operator → Opens inner → Opens text
more_opens text inner operator whole o = record {
  inside = o.inside ++ operator;
  opened = whole ∙ ap (λ u. u ++ operator) o.opened;
  particle = λ rest. rw (append_assoc o.inside operator rest) (o.particle (operator ++ rest));
}

group_opens : (p : NamedPart) (text : List ℕ) → IsGroup p → SpellsPart p text → Opens text
group_opens (name n) text group s = absurd group
group_opens (seq ps) text group s = members_open (codes ",") ps text s
group_opens (choice ps) text group s = members_open (codes "|") ps text s.1
group_opens (opt p) text group s = more_opens text s.0 (codes "?") s.3 (group_opens p s.0 group s.2)
group_opens (star p) text group s = more_opens text s.0 (codes "*") s.3 (group_opens p s.0 group s.2)
group_opens (plus p) text group s = more_opens text s.0 (codes "+") s.3 (group_opens p s.0 group s.2)

children_are_read : (p : NamedPart) (text : List ℕ) → Opens text → SpellsPart p text →
    nesting_of p ≤ MAX_NESTING → (rest : List ℕ) → begins goes_on rest ≡ false →
    model_at (text ++ rest) ≡ Some (children p, rest)
unfolding model_at group_model_at children_at
children_are_read p text o s shallow rest ends =
    let all : text ++ rest ≡ 40 ∷ (o.inside ++ rest) = ap (λ u. u ++ rest) o.opened in
    let read : particle_at MAX_NESTING (40 ∷ (o.inside ++ rest)) ≡ Some (p, rest) = ap (particle_at MAX_NESTING) (sym all) ∙ part_is_read p text s MAX_NESTING rest shallow ends in
    rw (all, o.particle rest, read) refl

pub model_is_read : (m : NamedModel) (text : List ℕ) → SpellsModel m text → IsShallow m → (rest : List ℕ) → begins goes_on rest ≡ false → model_at (text ++ rest) ≡ Some (m, rest)
unfolding model_at
model_is_read empty text s shallow rest ends = rw s refl
model_is_read any text s shallow rest ends = rw s refl
model_is_read (mixed names) text (inl s) shallow rest ends = mixed_is_read names (codes ")*") text (codes "*") s refl rest (mixed_ends_by_star names rest)
model_is_read (mixed names) text (inr s) shallow rest ends = mixed_is_read names (codes ")") text [] s.1 refl rest (rw (s.0, no_star rest ends) refl)
model_is_read (children p) text s shallow rest ends = children_are_read p text (group_opens p text s.0 s.1) s.1 shallow rest ends

-- a model begins with no space
pub model_begins : (m : NamedModel) (text rest : List ℕ) → SpellsModel m text → begins is_space (text ++ rest) ≡ false
model_begins empty text rest s = rw s refl
model_begins any text rest s = rw s refl
model_begins (mixed names) text rest (inl s) = rw s.whole refl
model_begins (mixed names) text rest (inr s) = let whole = s.1.whole in rw whole refl
model_begins (children p) text rest s = part_begins p text rest s.1
