-- A file has some expansion.
use Rattle.std.proofs.Common.{◌≡◌, ◌≢◌, ◌<◌, ◌≤◌, inl, inr, ℕ, zero, suc, ◌+◌, List, [], ◌∷◌, ◌++◌, length, codes, Bool, true, false, ◌||◌, Option}
use Rattle.std.proofs.Common.{Some, None, refl, sym, ap, ◌∙◌, subst, arith, length-append, append_assoc}
use Rattle.std.specs.Option.{MatchOption}
use Rattle.std.proofs.lemmas.Bool.{ltb-false}
use Rattle.pv_chars.specs.Fronts.{Begins, BeginsNone}
use Rattle.pv_chars.specs.Declarations.{IsTextDecl}
use Rattle.pv_chars.specs.Scan.{after_bytes}
use Rattle.pv_chars.proofs.TextScans.{after_bytes_takes}
use Rattle.pv_params.specs.Items.{Mode, file, between, inside, value, TextItem, puts, reference, parameter, declaration}
use Rattle.pv_params.specs.Spelling.{Spells, StandsAt, IsPEDecl, IsWord, IsDeclaration, IsConditional, IsExternal, HasHead}
use Rattle.pv_chars.specs.ByteOrderMark.{IsBehindByteOrderMark}
use Rattle.pv_chars.proofs.ByteOrderMarkLemmas.{some_behind}
use Rattle.pv_params.proofs.Heads.{mark_is_front}
use Rattle.pv_params.specs.Meaning.{Fault, SoFar, text_of, is_being_read, passes_limit, MAX_REFERENCES, no_entity, being_read, past_limit, not_inside}
use Rattle.pv_params.specs.Meaning.{Enters, EndOfText, closes, declares, finish, Within, Opens, of_reference, of_parameter, of_declaration, Outcome}
use Rattle.pv_params.specs.Meaning.{gives, meets, IsBetween, BeginsNothing, IsOfEntity, Stops, ends, refused, of_section, of_external, no_item}
use Rattle.pv_params.specs.Meaning.{unread, Reads, stops, copies, meets_within, goes_on, Expansion, expansion_of, Expands, behind_head, put}
use Rattle.pv_params.specs.Meaning.{with_no_result}
use Rattle.pv_chars.proofs.CharFacts.{no_start}
use Rattle.pv_chars.specs.CharReading.{text_declaration_at}
use Rattle.pv_chars.proofs.TextDeclarations.{tells_declaration}
use Rattle.pv_params.specs.ItemReading.{item_at, is_inside, external_at}
use Rattle.pv_params.proofs.Runs.{shorter}
use Rattle.pv_params.proofs.DeclarationsRead.{inside_is, is_inside_read}
use Rattle.pv_params.proofs.BetweenRead.{external_read, external_is_read}
use Rattle.pv_params.proofs.OneExpansion.{mode_reads, front, stands, item_found}

-- what a rest comes to, where no reference is uncounted
pub record Comes (mode : Mode) (reading : List (List ℕ)) (before : SoFar) (rest : List ℕ) : Type 0 where
  pub outcome : Outcome
  pub reads : Reads mode reading before rest outcome
  pub grows : (after : SoFar) → outcome ≡ gives after → before.references ≤ after.references

pub finish_counts : (e : EndOfText) (after : SoFar) → (finish e after).references ≡ after.references
finish_counts (closes bytes) after = refl
finish_counts (declares name result) after = refl

same_gives : {a b : SoFar} → gives a ≡ gives b → a ≡ b
same_gives e = cc

module _ (mode : Mode) (reading : List (List ℕ)) (before : SoFar) (rest : List ℕ) where
  stopped : (fault : Fault) → Stops mode reading before rest (meets fault) → Comes mode reading before rest
  stopped fault s = record { outcome = meets fault; reads = stops s; grows = λ after e. cc }

  within : (w : Within) → Opens mode reading before rest w → before.references ≤ w.before.references → Comes w.mode w.reading w.before w.text →
      ((after : SoFar) → before.references ≤ after.references → Comes w.mode_behind reading (finish w.ending after) w.behind) → Comes mode reading before rest
  within w opens more inner behind = by inner.outcome inner.reads inner.grows
    where
      by : (o : Outcome) → Reads w.mode w.reading w.before w.text o → ((after : SoFar) → o ≡ gives after → w.before.references ≤ after.references) → Comes mode reading before rest
      by (meets fault) r g = record { outcome = meets fault; reads = meets_within opens r; grows = λ after e. cc }
      by (gives after) r g =
          let up = g after refl in
          let others = behind after (omega arith) in
          record { outcome = others.outcome; reads = goes_on opens r others.reads; grows = λ last e. let there = others.grows last e in let same = finish_counts w.ending after in omega arith }

-- whether the mode is Inside
is_mode_inside : Mode → Bool
is_mode_inside (file after) = false
is_mode_inside between = false
is_mode_inside inside = true
is_mode_inside value = false

mode_is_inside : (mode : Mode) → is_mode_inside mode ≡ true → mode ≡ inside
unfolding is_mode_inside
mode_is_inside (file after) e = cc
mode_is_inside between e = cc
mode_is_inside inside e = refl
mode_is_inside value e = cc

mode_is_other : (mode : Mode) → is_mode_inside mode ≡ false → mode ≡ inside → ⊥
unfolding is_mode_inside
mode_is_other mode other e = let same : is_mode_inside mode ≡ true = ap is_mode_inside e in cc

or_false : (a b : Bool) → (a || b) ≡ false → a ≡ false
or_false true b e = cc
or_false false b e = refl

counted : (before : SoFar) (text : List ℕ) → passes_limit before text ≡ false → suc before.references ≤ MAX_REFERENCES
counted before text e = ltb-false MAX_REFERENCES (suc before.references) (or_false _ _ e)

value_shorter : (name given text : List ℕ) → IsPEDecl name given text → length given < length text
value_shorter name given text s =
    let q = s.is_quoted in
    let a = s.end ++ codes ">" in
    let b = s.quoted ++ a in
    let c = s.behind ++ b in
    let d = name ++ c in
    let e = s.after ++ d in
    let f = codes "%" ++ e in
    let g = s.before ++ f in
    omega (
      arith,
      ap length s.whole,
      length-append (codes "<!ENTITY") g,
      length-append s.before f,
      length-append (codes "%") e,
      length-append s.after d,
      length-append name c,
      length-append s.behind b,
      length-append s.quoted a,
      ap length q.whole,
      length-append given (q.quote ∷ []),
    )

held_shorter : (word held text : List ℕ) → IsDeclaration word held text → length held < length text
held_shorter word held text s = omega (arith, ap length s.whole, length-append word (held ++ codes ">"), length-append held (codes ">"))

front_shorter : (rest text more part : List ℕ) → rest ≡ text ++ more → length part < length text → length part < length rest
front_shorter rest text more part e less = omega (arith, ap length e, length-append text more)

-- a value, and what stands after its declaration, are shorter by more than one byte than the rest
pub value_room : (mode : Mode) (rest name given more : List ℕ) → StandsAt mode rest (parameter name given) more → length given + length more + 1 < length rest
value_room mode rest name given more s = by mode s.spelled
  where
    long : IsPEDecl name given s.text → length given + length more + 1 < length rest
    long p =
        let q = p.is_quoted in
        let a = p.end ++ codes ">" in
        let b = p.quoted ++ a in
        let c = p.behind ++ b in
        let d = name ++ c in
        let e = p.after ++ d in
        let f = codes "%" ++ e in
        let g = p.before ++ f in
        omega (
          arith,
          ap length s.whole,
          length-append s.text more,
          ap length p.whole,
          length-append (codes "<!ENTITY") g,
          length-append p.before f,
          length-append (codes "%") e,
          length-append p.after d,
          length-append name c,
          length-append p.behind b,
          length-append p.quoted a,
          ap length q.whole,
          length-append given (q.quote ∷ []),
        )

    by : (md : Mode) → Spells md (parameter name given) s.text → length given + length more + 1 < length rest
    by (file after) p = long p
    by between p = long p
    by inside p = absurd p
    by value p = absurd p

pub held_room : (mode : Mode) (rest word held more : List ℕ) → StandsAt mode rest (declaration word held) more → length held + length more + 1 < length rest
held_room mode rest word held more s = by mode s.spelled
  where
    some_word : (l : List ℕ) → IsWord l → 1 ≤ length l
    some_word l (inl is) = omega (arith, ap length is)
    some_word l (inr (inl is)) = omega (arith, ap length is)
    some_word l (inr (inr (inl is))) = omega (arith, ap length is)
    some_word l (inr (inr (inr is))) = omega (arith, ap length is)

    long : IsDeclaration word held s.text → length held + length more + 1 < length rest
    long p = let w = some_word word p.is_word in omega (arith, ap length s.whole, length-append s.text more, ap length p.whole, length-append word (held ++ codes ">"), length-append held (codes ">"))

    by : (md : Mode) → Spells md (declaration word held) s.text → length held + length more + 1 < length rest
    by (file after) p = long p
    by between p = long p
    by inside p = absurd p
    by value p = absurd p

abbrev All : ℕ → Type 0
All n = (mode : Mode) (reading : List (List ℕ)) (before : SoFar) (rest : List ℕ) → MAX_REFERENCES ≤ before.references + n → Comes mode reading before rest

module _ (n : ℕ) (lower : (k : ℕ) → n ≡ suc k → All k) (m : ℕ)
    (below : (mode : Mode) (reading : List (List ℕ)) (before : SoFar) (rest : List ℕ) → length rest < m → MAX_REFERENCES ≤ before.references + n → Comes mode reading before rest)
    (mode : Mode) (reading : List (List ℕ)) (before : SoFar) (rest : List ℕ) (few : length rest < suc m) (left : MAX_REFERENCES ≤ before.references + n) where
  goes_behind : (i : TextItem) (more : List ℕ) → StandsAt mode rest i more → (mode_behind : Mode) (after : SoFar) → before.references ≤ after.references → Comes mode_behind reading after more
  goes_behind i more s mode_behind after grown =
      let less = shorter (Spells mode) (item_at mode) (mode_reads mode) rest i more (front s) in
      below mode_behind reading after more (omega arith) (omega arith)

  -- a text that is entered
  enters : (name text more : List ℕ) → StandsAt mode rest (reference name) more → Enters mode reading before name text → (k : ℕ) → n ≡ k → Comes mode reading before rest
  enters name text more s is zero e = let few_left = counted before text is.within in absurd (omega arith)
  enters name text more s is (suc k) e =
      within mode reading before rest _ (of_reference s is) (omega arith) (lower k e _ _ _ text (omega arith))
      (λ after grown. goes_behind (reference name) more s mode (finish (closes _) after) grown)

  judged : (name text more : List ℕ) → StandsAt mode rest (reference name) more → text_of name before.declared ≡ Some text → is_being_read name reading ≡ false → passes_limit before text ≡ false →
      (in_mode has_form : Bool) → is_mode_inside mode ≡ in_mode → is_inside text ≡ has_form → Comes mode reading before rest
  judged name text more s t r l true false im form = stopped mode reading before rest _ (refused s (not_inside t r l (mode_is_inside mode im) (λ is. let some = is_inside_read text is in cc)))
  judged name text more s t r l true true im form = enters name text more s record { is_text = t; not_read = r; within = l; judged = λ e. inside_is text form } n refl
  judged name text more s t r l false form_is im form = enters name text more s record { is_text = t; not_read = r; within = l; judged = λ e. absurd (mode_is_other mode im e) } n refl

  limited : (name text more : List ℕ) → StandsAt mode rest (reference name) more →
      text_of name before.declared ≡ Some text → is_being_read name reading ≡ false →
      (past : Bool) → passes_limit before text ≡ past → Comes mode reading before rest
  limited name text more s t r true l = stopped mode reading before rest _ (refused s (past_limit t r l))
  limited name text more s t r false l = judged name text more s t r l (is_mode_inside mode) (is_inside text) refl refl

  opened : (name text more : List ℕ) → StandsAt mode rest (reference name) more →
      text_of name before.declared ≡ Some text → (open_it : Bool) → is_being_read name reading
      ≡ open_it → Comes mode reading before rest
  opened name text more s t true r = stopped mode reading before rest _ (refused s (being_read t r))
  opened name text more s t false r = limited name text more s t r (passes_limit before text) refl

  referred : (name more : List ℕ) → StandsAt mode rest (reference name) more → (o : Option (List ℕ)) → text_of name before.declared ≡ o → Comes mode reading before rest
  referred name more s None t = stopped mode reading before rest _ (refused s (no_entity t))
  referred name more s (Some text) t = opened name text more s t (is_being_read name reading) refl

  value_part : (name given more : List ℕ) → StandsAt mode rest (parameter name given) more → length given < length rest
  value_part name given more s = front_shorter rest s.text more given s.whole (by mode s.spelled)
    where
      by : (md : Mode) → Spells md (parameter name given) s.text → length given < length s.text
      by (file after) p = value_shorter name given s.text p
      by between p = value_shorter name given s.text p
      by inside p = absurd p
      by value p = absurd p

  held_part : (word held more : List ℕ) → StandsAt mode rest (declaration word held) more → length held < length rest
  held_part word held more s = front_shorter rest s.text more held s.whole (by mode s.spelled)
    where
      by : (md : Mode) → Spells md (declaration word held) s.text → length held < length s.text
      by (file after) p = held_shorter word held s.text p
      by between p = held_shorter word held s.text p
      by inside p = absurd p
      by value p = absurd p

  with_item : (i : TextItem) (more : List ℕ) → StandsAt mode rest i more → Comes mode reading before rest
  with_item (puts bytes) more s =
      let others = goes_behind (puts bytes) more s mode (put bytes before) (omega arith) in
      record { outcome = others.outcome; reads = copies s others.reads; grows = others.grows }
  with_item (reference name) more s = referred name more s (text_of name before.declared) refl
  with_item (parameter name given) more s =
      let less = value_part name given more s in
      within mode reading before rest _ (of_parameter s) (omega arith) (below value reading (with_no_result before) given (omega arith) left)
      (λ after grown. goes_behind (parameter name given) more s _ (finish (declares name before.result) after) grown)
  with_item (declaration word held) more s =
      let less = held_part word held more s in
      within mode reading before rest _ (of_declaration s) (omega arith) (below inside reading (put word before) held (omega arith) left)
      (λ after grown. goes_behind (declaration word held) more s mode (finish (closes (codes ">")) after) grown)

  -- no item begins
  no_item_at : item_at mode rest ≡ None → (i : TextItem) (more : List ℕ) → StandsAt mode rest i more → ⊥
  no_item_at e i more s = let some = item_found mode rest more i s in cc

  without_item : rest ≢ [] → item_at mode rest ≡ None → Comes mode reading before rest
  without_item some none = in_mode mode refl
    where
      nothing_begins : ((IsBetween mode → IsConditional rest → ⊥)) → (IsBetween mode → IsExternal rest → ⊥) → BeginsNothing mode rest
      nothing_begins c x = record { some = some; no_item = no_item_at none; not_conditional = c; not_external = x }

      fronted : IsBetween mode → (BeginsNothing mode rest → Comes mode reading before rest) →
          (o p : Option (List ℕ)) → after_bytes (codes "<![") rest ≡ o → external_at rest ≡ p →
          Comes mode reading before rest
      fronted is last (Some more) p c x = stopped mode reading before rest _ (of_section is (more, after_bytes_takes (codes "<![") rest more c))
      fronted is last None (Some more) c x = stopped mode reading before rest _ (of_external is (external_read rest more x))
      fronted is last None None c x = last (nothing_begins (λ _ s. no_start (codes "<![") rest c s.0 s.1) (λ _ y. let found = external_is_read rest y in cc))

      in_mode : (md : Mode) → mode ≡ md → Comes mode reading before rest
      in_mode (file after) e =
          fronted (subst IsBetween (sym e) tt)
          (λ b. record {
            outcome = _;
            reads = stops (unread e b);
            grows = λ last same. let is = same_gives same in
                omega (arith, ap (λ (s : SoFar). s.references) is);
          })
          (after_bytes (codes "<![") rest) (external_at rest) refl refl
      in_mode between e = fronted (subst IsBetween (sym e) tt) (λ b. stopped mode reading before
          rest _ (no_item (subst IsOfEntity (sym e) tt) b)) (after_bytes (codes "<![") rest)
          (external_at rest) refl refl
      in_mode inside e = stopped mode reading before rest _ (no_item (subst IsOfEntity (sym e) tt) (nothing_begins (λ is s. subst IsBetween e is) (λ is s. subst IsBetween e is)))
      in_mode value e = stopped mode reading before rest _ (no_item (subst IsOfEntity (sym e) tt) (nothing_begins (λ is s. subst IsBetween e is) (λ is s. subst IsBetween e is)))

  found : rest ≢ [] → (o : Option (TextItem × List ℕ)) → item_at mode rest ≡ o → Comes mode reading before rest
  found some None e = without_item some e
  found some (Some x) e = let r = mode_reads mode in with_item x.0 x.1 (stands (r.read rest x.0 x.1 e))

  step : (l : List ℕ) → rest ≡ l → Comes mode reading before rest
  step [] e = record { outcome = gives before; reads = stops (ends e); grows = λ after same. let is = same_gives same in omega (arith, ap (λ (s : SoFar). s.references) is) }
  step (b ∷ bs) e = found (λ none. let both : [] ≡ b ∷ bs = sym none ∙ e in cc) (item_at mode rest) refl

within_steps : (n : ℕ) → ((k : ℕ) → n ≡ suc k → All k) →
    (m : ℕ) (mode : Mode) (reading : List (List ℕ)) (before : SoFar) (rest : List ℕ) →
    length rest < m → MAX_REFERENCES ≤ before.references + n → Comes mode reading before rest
within_steps n lower zero mode reading before rest few left = absurd (omega arith)
within_steps n lower (suc m) mode reading before rest few left = step n lower m (within_steps n lower m) mode reading before rest few left rest refl

all : (n : ℕ) → All n
all zero mode reading before rest left = within_steps zero (λ k e. absurd (omega arith)) (suc (length rest)) mode reading before rest (omega arith) left
all (suc n) mode reading before rest left = within_steps (suc n) (λ k e. let same : n ≡ k = omega arith in subst All same (all n)) (suc (length rest)) mode reading before rest (omega arith) left

pub comes : (mode : Mode) (reading : List (List ℕ)) (before : SoFar) (rest : List ℕ) → Comes mode reading before rest
comes mode reading before rest = all MAX_REFERENCES mode reading before rest (omega arith)

-- ---- the file's head
pub record Headed (bytes : List ℕ) : Type 0 where
  pub head : List ℕ
  pub rest : List ℕ
  pub has_head : HasHead bytes head rest

declared_head : (bytes mark unmarked : List ℕ) → IsBehindByteOrderMark bytes unmarked → bytes ≡ mark
    ++ unmarked → (o : Option (List ℕ)) → MatchOption o (BeginsNone IsTextDecl unmarked)
    (Begins IsTextDecl unmarked) → Headed bytes
declared_head bytes mark unmarked is whole None none = record { head = mark; rest = unmarked; has_head = record { unmarked = unmarked; mark = is; text_declaration = inr (none, refl); whole = whole } }
declared_head bytes mark unmarked is whole (Some rest) begun =
    record {
      head = mark ++ begun.item;
      rest = rest;
      has_head = record {
        unmarked = unmarked;
        mark = is;
        text_declaration = inl begun;
        whole = whole ∙ ap (λ l. mark ++ l) begun.whole ∙ sym (append_assoc mark begun.item rest);
      };
    }

pub headed : (bytes : List ℕ) → Headed bytes
headed bytes =
    let unmarked = some_behind bytes in
    declared_head bytes unmarked.1.0 unmarked.0 unmarked.1 (mark_is_front bytes unmarked.1.0 unmarked.0 unmarked.1.1) (text_declaration_at unmarked.0) (tells_declaration unmarked.0)

pub some_expansion : (bytes : List ℕ) → (e : Expansion) × Expands bytes e
some_expansion bytes =
    let h = headed bytes in
    let c = comes (file false) [] (behind_head h.head) h.rest in
    (expansion_of c.outcome, record { head = h.head; rest = h.rest; outcome = c.outcome; has_head = h.has_head; reads = c.reads; is_expansion = refl })
