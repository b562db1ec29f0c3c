-- A content particle that is read is spelled so.
use Rattle.std.proofs.Common.{◌≡◌, ℕ, zero, suc, ◌≤◌, List, [], ◌∷◌, ◌++◌, length, codes, ◌==◌, Bool, true, false, cond, Option, Some, None, inl, inr}
use Rattle.std.proofs.Common.{◌⊎◌, refl, sym, ap, ◌∙◌, subst, append_assoc, arith}
use Rattle.std.proofs.lemmas.Bool.Decides.{Decides-eqb}
use Rattle.pv_chars.specs.Spaces.{IsOptionalSpace}
use Rattle.pv_chars.specs.Scan.{after_space, after_bytes}
use Rattle.pv_chars.proofs.TextScans.{after_space_takes, after_space-append, after_bytes_takes}
use Rattle.pv_chars.specs.CharReading.{name_at}
use Rattle.pv_dtd.specs.Items.{NamedPart, name, seq, choice, opt, star, plus, NamedParts, no_parts, part}
use Rattle.pv_dtd.specs.Spelling.{SpellsPart, SpellsGroup, SpellsOthers, IsUnrepeated, member_count, nesting_of, nesting_of_all}
use Rattle.pv_dtd.specs.PartReading.{Reader, word_at, with_operator, more_at, others_by, others_at, separator_at, group_of, group_at, bare_by, too_deep, particle_from, bare_at, particle_at}
use Rattle.pv_chars.proofs.ReaderSteps.{bound, same_some}
use Rattle.pv_chars.proofs.NameBytes.{name_at_takes}

-- What was read from the front of a text: the bytes that spell it.
pub record Reads {X : Type 0} (Spells : X → List ℕ → Type 0) (bytes : List ℕ) (f : X × List ℕ) : Type 0 where
  pub text : List ℕ
  pub spelled : Spells f.0 text
  pub whole : bytes ≡ text ++ f.1

-- a particle in at most so many groups
abbrev pub SpellsWithin : ℕ → NamedPart → List ℕ → Type 0
SpellsWithin depth p text = SpellsPart p text × (nesting_of p ≤ depth)

abbrev pub SpellsBare : ℕ → NamedPart → List ℕ → Type 0
SpellsBare depth p text = SpellsPart p text × (nesting_of p ≤ depth) × IsUnrepeated p

word_reads : (bytes : List ℕ) (f : NamedPart × List ℕ) → word_at bytes ≡ Some f → (depth : ℕ) → Reads (SpellsBare depth) bytes f
unfolding word_at
word_reads bytes f e depth =
    let word = bound (name_at bytes) (λ w. Some (name w.0, w.1)) f e in
    let takes = name_at_takes bytes word.value.0 word.value.1 word.first in
    subst (Reads (SpellsBare depth) bytes) (same_some _ _ word.others) record {
      text = word.value.0;
      spelled = ((takes.is_name, refl), omega arith, tt);
      whole = takes.whole;
    }

-- one byte more of the text
push_byte : (bytes text : List ℕ) (b : ℕ) (bs : List ℕ) → bytes ≡ text ++ b ∷ bs → bytes ≡ (text ++ b ∷ []) ++ bs
push_byte bytes text b bs e = e ∙ sym (append_assoc text (b ∷ []) bs)

module _ (depth : ℕ) (bytes : List ℕ) (p : NamedPart) where
  -- what stands before the operator is spelled, and the operator is one of three
  operator_reads : (b : ℕ) (bs : List ℕ) (q : NamedPart) → ((text : List ℕ) →
      SpellsBare depth p text → SpellsWithin depth q (text ++ b ∷ [])) →
      Reads (SpellsBare depth) bytes (p, b ∷ bs) → Reads (SpellsWithin depth) bytes (q, bs)
  operator_reads b bs q spells r = record { text = r.text ++ b ∷ []; spelled = spells r.text r.spelled; whole = push_byte bytes r.text b bs r.whole }

  no_operator : (rest : List ℕ) → Reads (SpellsBare depth) bytes (p, rest) → Reads (SpellsWithin depth) bytes (p, rest)
  no_operator rest r = record { text = r.text; spelled = (r.spelled.0, r.spelled.1); whole = r.whole }

  operated_by : (b : ℕ) (bs : List ℕ) (is_opt is_star is_plus : Bool) → (b == 63) ≡ is_opt → (b == 42) ≡ is_star → (b == 43) ≡ is_plus → Reads (SpellsBare depth) bytes (p, b ∷ bs) →
      Reads (SpellsWithin depth) bytes (cond is_opt (opt p, bs) (cond is_star (star p, bs) (cond is_plus (plus p, bs) (p, b ∷ bs))))
  operated_by b bs true is_star is_plus e f g r = operator_reads b bs (opt p) (λ text s. ((text, s.2, s.0, ap (λ c. text ++ c ∷ []) ((Decides-eqb b 63).0 e)), s.1)) r
  operated_by b bs false true is_plus e f g r = operator_reads b bs (star p) (λ text s. ((text, s.2, s.0, ap (λ c. text ++ c ∷ []) ((Decides-eqb b 42).0 f)), s.1)) r
  operated_by b bs false false true e f g r = operator_reads b bs (plus p) (λ text s. ((text, s.2, s.0, ap (λ c. text ++ c ∷ []) ((Decides-eqb b 43).0 g)), s.1)) r
  operated_by b bs false false false e f g r = no_operator (b ∷ bs) r

  operated_reads : (rest : List ℕ) → Reads (SpellsBare depth) bytes (p, rest) → Reads (SpellsWithin depth) bytes (with_operator p rest)
  unfolding with_operator
  operated_reads [] r = no_operator [] r
  operated_reads (b ∷ bs) r = operated_by b bs (b == 63) (b == 42) (b == 43) refl refl refl r

-- what these readers read is spelled so
abbrev AreBare : ℕ → Reader NamedPart → Type 0
AreBare depth read = (bytes : List ℕ) (f : NamedPart × List ℕ) → read bytes ≡ Some f → Reads (SpellsBare depth) bytes f

abbrev AreParticles : ℕ → Reader NamedPart → Type 0
AreParticles depth read = (bytes : List ℕ) (f : NamedPart × List ℕ) → read bytes ≡ Some f → Reads (SpellsWithin depth) bytes f

particles : (depth : ℕ) (read : Reader NamedPart) → AreBare depth read → AreParticles depth (particle_from read)
unfolding particle_from
particles depth read sound bytes f e =
    let bare = bound (read bytes) (λ p. Some (with_operator p.0 p.1)) f e in
    subst (Reads (SpellsWithin depth) bytes) (same_some _ _ bare.others) (operated_reads depth bytes bare.value.0 bare.value.1 (sound bytes bare.value bare.first))

-- the other members of a group, and its end
record ReadsOthers (depth : ℕ) (separator : List ℕ) (bytes : List ℕ) (f : NamedParts × List ℕ) : Type 0 where
  text : List ℕ
  after : List ℕ
  spelled : SpellsOthers separator f.0 text
  space_after : IsOptionalSpace after
  within : nesting_of_all f.0 ≤ depth
  whole : bytes ≡ text ++ (after ++ (codes ")" ++ f.1))

-- the pieces of one more member, joined
one_more_joined : (bytes before place separator behind space inner next rest text end : List ℕ) →
    bytes ≡ before ++ place → place ≡ separator ++ behind → behind ≡ space ++ inner → inner ≡ next ++ rest → rest ≡ text ++ end →
    bytes ≡ (before ++ separator ++ space ++ next ++ text) ++ end
one_more_joined bytes before place separator behind space inner next rest text end a b c d e = rw (a, b, c, d, e) (simp append_assoc)

-- a separator, one more member, and the others
member_joined : (depth separator : ℕ) (bytes behind : List ℕ) (next : NamedPart × List ℕ) (more : NamedParts × List ℕ) → after_bytes (separator ∷ []) (after_space bytes) ≡ Some behind →
    Reads (SpellsWithin depth) (after_space behind) next → ReadsOthers depth (separator ∷ []) next.1 more → ReadsOthers depth (separator ∷ []) bytes (part next.0 more.0, more.1)
member_joined depth separator bytes behind next more e first rest =
    let before = after_space_takes bytes in
    let space = after_space_takes behind in
    record {
      text = before.space ++ (separator ∷ []) ++ space.space ++ first.text ++ rest.text;
      after = rest.after;
      spelled = (before.space, space.space, first.text, rest.text, before.optional, space.optional, first.spelled.0, rest.spelled, refl);
      space_after = rest.space_after;
      within = omega (arith, first.spelled.1, rest.within);
      whole = one_more_joined bytes before.space (after_space bytes) (separator ∷ []) behind space.space (after_space behind) first.text next.1 rest.text _
          before.whole (after_bytes_takes (separator ∷ []) (after_space bytes) behind e) space.whole first.whole rest.whole;
    }

module _ (depth separator : ℕ) (read : Reader NamedPart) (sound : AreParticles depth read) where
  abbrev AreOthers : Reader NamedParts → Type 0
  AreOthers others = (bytes : List ℕ) (f : NamedParts × List ℕ) → others bytes ≡ Some f → ReadsOthers depth (separator ∷ []) bytes f

  more_read : (others : Reader NamedParts) → AreOthers others → (bytes : List ℕ) (f : NamedParts
      × List ℕ) → more_at read separator others (after_space bytes) ≡ Some f →
      ReadsOthers depth (separator ∷ []) bytes f
  unfolding more_at
  more_read others below bytes f e =
      let behind = bound (after_bytes (separator ∷ []) (after_space bytes)) _ f e in
      let next = bound (read (after_space behind.value)) _ f behind.others in
      let more = bound (others next.value.1) _ f next.others in
      subst (ReadsOthers depth (separator ∷ []) bytes) (same_some _ _ more.others)
      (member_joined depth separator bytes behind.value next.value more.value behind.first (sound (after_space behind.value) next.value next.first) (below next.value.1 more.value more.first))

  ended : (bytes : List ℕ) (after : List ℕ) → after_bytes (codes ")") (after_space bytes) ≡ Some after → ReadsOthers depth (separator ∷ []) bytes (no_parts, after)
  ended bytes after e =
      let space = after_space_takes bytes in
      record {
        text = [];
        after = space.space;
        spelled = refl;
        space_after = space.optional;
        within = omega arith;
        whole = space.whole ∙ ap (λ b. space.space ++ b) (after_bytes_takes (codes ")") (after_space bytes) after e);
      }

  others_by_read : (others : Reader NamedParts) → AreOthers others → (bytes : List ℕ) (f : NamedParts × List ℕ) (end : Option (List ℕ)) → after_bytes (codes ")") (after_space bytes) ≡ end →
      others_by (more_at read separator others) (after_space bytes) end ≡ Some f → ReadsOthers depth (separator ∷ []) bytes f
  others_by_read others below bytes f None is e = more_read others below bytes f e
  others_by_read others below bytes f (Some after) is e = subst (ReadsOthers depth (separator ∷ []) bytes) (same_some _ _ e) (ended bytes after is)

  others_read : (steps : ℕ) → AreOthers (others_at read separator steps)
  unfolding others_at
  others_read zero bytes f e = cc
  others_read (suc steps) bytes f e = others_by_read (others_at read separator steps) (others_read steps) bytes f (after_bytes (codes ")") (after_space bytes)) refl e

abbrev IsSeparator : ℕ → Type 0
IsSeparator b = (b ≡ 124) ⊎ (b ≡ 44)

separator_by : (bar : Bool) → IsSeparator (cond bar 124 44)
separator_by true = inl refl
separator_by false = inr refl

separator_is : (bytes : List ℕ) → IsSeparator (separator_at bytes)
unfolding separator_at
separator_is [] = inr refl
separator_is (b ∷ bs) = separator_by (b == 124)

-- a group with '|' has another member
not_alone : (depth separator : ℕ) (bytes : List ℕ) (ps : NamedParts) (rest : List ℕ) →
    ReadsOthers depth (separator ∷ []) bytes (ps, rest) → separator_at (after_space bytes) ≡ 124 →
    1 ≤ member_count ps
unfolding separator_at
not_alone depth separator bytes no_parts rest r bar =
    let whole : bytes ≡ r.after ++ (codes ")" ++ rest) = r.whole ∙ ap (λ t. t ++ (r.after ++ (codes ")" ++ rest))) r.spelled in
    let place : after_space bytes ≡ codes ")" ++ rest = ap after_space whole ∙ after_space-append r.after (codes ")" ++ rest) r.space_after refl in
    let other : separator_at (after_space bytes) ≡ 44 = ap separator_at place in
    absurd (omega arith)
not_alone depth separator bytes (part p ps) rest r bar = omega arith

-- the pieces of a group, joined
group_joined : (bytes inside before inner first rest text after end : List ℕ) → bytes ≡ codes "("
    ++ inside → inside ≡ before ++ inner → inner ≡ first ++ rest → rest ≡ text
    ++ (after ++ (codes ")" ++ end)) →
    bytes ≡ (codes "(" ++ before ++ first ++ text ++ after ++ codes ")") ++ end
group_joined bytes inside before inner first rest text after end a b c d = rw (a, b, c, d) (simp append_assoc)

module _ (depth : ℕ) (bytes inside : List ℕ) (first : NamedPart × List ℕ) (others : NamedParts
    × List ℕ) (opened : bytes ≡ codes "(" ++ inside) (member : Reads (SpellsWithin depth)
    (after_space inside) first) where
  group_by : (separator : ℕ) (q : NamedPart) →
      ((text : List ℕ) → SpellsGroup (separator ∷ []) (part first.0 others.0) text → nesting_of first.0 ≤ depth → nesting_of_all others.0 ≤ depth → SpellsBare (suc depth) q text) →
      ReadsOthers depth (separator ∷ []) first.1 others → Reads (SpellsBare (suc depth)) bytes (q, others.1)
  group_by separator q spells rest =
      let before = after_space_takes inside in
      let text = codes "(" ++ before.space ++ member.text ++ rest.text ++ rest.after ++ codes ")" in
      record {
        text = text;
        spelled = spells text (before.space, member.text, rest.text, rest.after, before.optional, member.spelled.0, rest.spelled, rest.space_after, refl) member.spelled.1 rest.within;
        whole = group_joined bytes inside before.space (after_space inside) member.text first.1 rest.text rest.after others.1 opened before.whole member.whole rest.whole;
      }

  group_made : (separator : ℕ) → IsSeparator separator →
      separator ≡ separator_at (after_space first.1) →
      ReadsOthers depth (separator ∷ []) first.1 others → Reads (SpellsBare (suc depth)) bytes
      (group_of separator (part first.0 others.0), others.1)
  group_made separator (inl bar) is rest =
      let more = not_alone depth separator first.1 others.0 others.1 rest (sym is ∙ bar) in
      let made = group_by 124 (choice (part first.0 others.0)) (λ text s n m. ((omega arith, s), omega arith, tt)) in
      rw bar (made (rw bar at rest))
  group_made separator (inr comma) is rest =
      let made = group_by 44 (seq (part first.0 others.0)) (λ text s n m. (s, omega arith, tt)) in
      rw comma (made (rw comma at rest))

groups : (depth : ℕ) (read : Reader NamedPart) → AreParticles depth read →
    (bytes inside : List ℕ) (f : NamedPart × List ℕ) → bytes ≡ codes "(" ++ inside →
    group_at read inside ≡ Some f → Reads (SpellsBare (suc depth)) bytes f
unfolding group_at
groups depth read sound bytes inside f opened e =
    let first = bound (read (after_space inside)) _ f e in
    let others = bound (others_at read (separator_at (after_space first.value.1)) (suc (length first.value.1)) first.value.1) _ f first.others in
    subst (Reads (SpellsBare (suc depth)) bytes) (same_some _ _ others.others)
    (group_made depth bytes inside first.value others.value opened (sound (after_space inside) first.value first.first) (separator_at (after_space first.value.1)) (separator_is _) refl
    (others_read depth (separator_at (after_space first.value.1)) read sound (suc (length first.value.1)) first.value.1 others.value others.first))

bare_by_read : (depth : ℕ) (group : Reader NamedPart) → ((bytes inside : List ℕ) (f : NamedPart × List ℕ) → bytes ≡ codes "(" ++ inside → group inside ≡ Some f → Reads (SpellsBare depth) bytes f) →
    (bytes : List ℕ) (f : NamedPart × List ℕ) (o : Option (List ℕ)) → after_bytes (codes "(") bytes ≡ o → bare_by group bytes o ≡ Some f → Reads (SpellsBare depth) bytes f
bare_by_read depth group sound bytes f None is e = word_reads bytes f e depth
bare_by_read depth group sound bytes f (Some inside) is e = sound bytes inside f (after_bytes_takes (codes "(") bytes inside is) e

bare_reads : (depth : ℕ) → AreBare depth (bare_at depth)
unfolding bare_at
bare_reads zero bytes f e = bare_by_read zero too_deep (λ bytes inside f opened e. cc) bytes f (after_bytes (codes "(") bytes) refl e
bare_reads (suc depth) bytes f e =
    bare_by_read (suc depth) (group_at (particle_at depth)) (groups depth (particle_at depth) (particles depth (bare_at depth) (bare_reads depth))) bytes f (after_bytes (codes "(") bytes) refl e

pub particle_reads : (depth : ℕ) (bytes : List ℕ) (f : NamedPart × List ℕ) → particle_at depth bytes ≡ Some f → Reads (SpellsWithin depth) bytes f
particle_reads depth = particles depth (bare_at depth) (bare_reads depth)
