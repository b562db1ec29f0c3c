-- One step of the program: what it leads to, and that less is left.
use Rattle.std.proofs.Common.{◌≡◌, ◌≢◌, ◌<◌, ℕ, suc, ◌+◌, ◌-◌, ◌*◌, List, [], ◌∷◌, ◌++◌, length, take, drop, codes, Bool, true, false, ◌||◌, is_some}
use Rattle.std.proofs.Common.{Option, Some, None, ◌==◌, refl, sym, ap, ◌∙◌, subst, arith}
use Rattle.std.proofs.Common.{append_assoc, length-append, take-append-drop}
use Rattle.std.proofs.lemmas.Bool.{ltb-false}
use Rattle.std.proofs.lemmas.Bool.Decides.{Decides-eqb}
use Rattle.std.proofs.lemmas.List.{drop_at}
use Rattle.pv_chars.specs.Scan.{after_bytes}
use Rattle.pv_chars.proofs.TextScans.{after_bytes_takes}
use Rattle.pv_params.specs.Items.{Mode, file, between, inside, value, TextItem, puts, reference, parameter, declaration}
use Rattle.pv_params.specs.Spelling.{Spells, StandsAt, IsConditional, IsExternal}
use Rattle.pv_params.specs.Meaning.{Fault, conditional, external, undeclared, recursive, limit, syntax, SoFar, MAX_REFERENCES, MAX_PLACED, Enters}
use Rattle.pv_params.specs.Meaning.{EndOfText, closes, declares, finish, put, entered, with_no_result, blank, blank_before, mode_of_text, Within}
use Rattle.pv_params.specs.Meaning.{Opens, of_reference, of_parameter, of_declaration, Outcome, gives, meets, IsBetween, IsOfEntity, BeginsNothing}
use Rattle.pv_params.specs.Meaning.{Stops, ends, refused, of_section, of_external, no_item, unread, Reads, stops, copies, meets_within, goes_on}
use Rattle.pv_params.specs.Meaning.{expanded, Expands}
use Rattle.pv_params.specs.ItemReading.{item_at, external_at}
use Rattle.pv_params.specs.OpenTexts.{LeadToExpansion, PlainOpenText, names_behind, Comes, LeadToOutcome, room_of, work_left, mode_behind, OpensAt, Handles}
use Rattle.pv_params.specs.Answers.{Tells}
use Rattle.pv_params.specs.declared.errors.ParamError.{ParamError}
use Rattle.pv_params.specs.declared.errors.ParamError.TheVariants.{Conditional, External, Undeclared, Recursive, Limit, Syntax, NoMemory}
use Rattle.pv_chars.proofs.CharFacts.{no_start}
use Rattle.pv_params.proofs.Runs.{shorter}
use Rattle.pv_params.proofs.BetweenRead.{external_read, external_is_read}
use Rattle.pv_params.proofs.OneExpansion.{mode_reads, front, stands, item_found}
use Rattle.pv_params.proofs.SomeExpansion.{value_room, held_room, finish_counts}

-- ---- faults
pub tells_also : {P Q : Fault → Type 0} → ((f : Fault) → P f → Q f) → (e : ParamError) → Tells P e → Tells Q e
tells_also f Conditional t = f conditional t
tells_also f External t = f external t
tells_also f Undeclared t = f undeclared t
tells_also f Recursive t = f recursive t
tells_also f Limit t = f limit t
tells_also f Syntax t = f syntax t
tells_also f NoMemory t = tt

-- ---- texts that are read within
pub opens_reference : (mode : Mode) (reading names : List (List ℕ)) (before after : SoFar) (name text n : List ℕ) (m : Mode) (e : EndOfText) (p : PlainOpenText) →
    p ≡ record { mode = m; of_entity = true; rest = text; ending = e } → m ≡ mode_of_text mode →
    names ≡ n ∷ reading → n ≡ name → e ≡ closes (blank mode) →
    after ≡ entered mode text before → Enters mode reading before name text →
    OpensAt mode reading before (reference name) p names after
opens_reference mode reading names before after name text n m e p p_is m_is names_are n_is e_is
    after_is enters = rw (p_is, m_is, names_are, n_is, e_is, after_is)
    record { opens = λ rest more s. of_reference s enters; names = refl }

pub opens_parameter : (mode : Mode) (reading : List (List ℕ)) (before after : SoFar) (name given n result : List ℕ) (p : PlainOpenText) →
    p ≡ record { mode = value; of_entity = false; rest = given; ending = declares n result } → n ≡ name → result ≡ before.result → after ≡ with_no_result before →
    OpensAt mode reading before (parameter name given) p reading after
opens_parameter mode reading before after name given n result p p_is n_is result_is after_is = rw (p_is, n_is, result_is, after_is) record { opens = λ rest more s. of_parameter s; names = refl }

pub opens_declaration : (mode : Mode) (reading : List (List ℕ)) (before after : SoFar) (word held : List ℕ) (p : PlainOpenText) →
    p ≡ record { mode = inside; of_entity = false; rest = held; ending = closes (codes ">") } → after ≡ put word before →
    OpensAt mode reading before (declaration word held) p reading after
opens_declaration mode reading before after word held p p_is after_is = rw (p_is, after_is) record { opens = λ rest more s. of_declaration s; names = refl }

-- ---- where no item begins
nothing_begins : (mode : Mode) (rest : List ℕ) → rest ≢ [] → item_at mode rest ≡ None → (IsBetween mode → IsConditional rest → ⊥) → (IsBetween mode → IsExternal rest → ⊥) → BeginsNothing mode rest
nothing_begins mode rest some none c x = record { some = some; no_item = λ i more s. let found = item_found mode rest more i s in cc; not_conditional = c; not_external = x }

not_some : {A : Type 0} (o : Option A) → false ≡ is_some o → o ≡ None
not_some None e = refl
not_some (Some x) e = cc

pub syntax_inside : (mode : Mode) (reading : List (List ℕ)) (before : SoFar) (rest : List ℕ) → mode ≡ inside → rest ≢ [] → item_at mode rest ≡ None → Stops mode reading before rest (meets syntax)
syntax_inside mode reading before rest e some none = no_item (subst IsOfEntity (sym e) tt) (nothing_begins mode rest some none (λ is s. subst IsBetween e is) (λ is s. subst IsBetween e is))

pub syntax_value : (mode : Mode) (reading : List (List ℕ)) (before : SoFar) (rest : List ℕ) → mode ≡ value → rest ≢ [] → item_at mode rest ≡ None → Stops mode reading before rest (meets syntax)
syntax_value mode reading before rest e some none = no_item (subst IsOfEntity (sym e) tt) (nothing_begins mode rest some none (λ is s. subst IsBetween e is) (λ is s. subst IsBetween e is))

pub section_stops : (mode : Mode) (reading : List (List ℕ)) (before : SoFar) (rest : List ℕ) →
    IsBetween mode → true ≡ is_some (after_bytes (codes "<![") rest) →
    Stops mode reading before rest (meets conditional)
section_stops mode reading before rest is e = by (after_bytes (codes "<![") rest) refl e
  where
    by : (o : Option (List ℕ)) → after_bytes (codes "<![") rest ≡ o → true ≡ is_some o → Stops mode reading before rest (meets conditional)
    by None f e = cc
    by (Some more) f e = of_section is (more, after_bytes_takes (codes "<![") rest more f)

pub external_stops : (mode : Mode) (reading : List (List ℕ)) (before : SoFar) (rest : List ℕ) → IsBetween mode → true ≡ is_some (external_at rest) → Stops mode reading before rest (meets external)
external_stops mode reading before rest is e = by (external_at rest) refl e
  where
    by : (o : Option (List ℕ)) → external_at rest ≡ o → true ≡ is_some o → Stops mode reading before rest (meets external)
    by None f e = cc
    by (Some more) f e = of_external is (external_read rest more f)

begins_nothing : (mode : Mode) (rest : List ℕ) → rest ≢ [] → item_at mode rest ≡ None → false ≡ is_some (after_bytes (codes "<![") rest) → false ≡ is_some (external_at rest) → BeginsNothing mode rest
begins_nothing mode rest some none s x =
    let no_section = not_some _ s in
    let no_external = not_some _ x in
    nothing_begins mode rest some none (λ is y. no_start (codes "<![") rest no_section y.0 y.1) (λ is y. let found = external_is_read rest y in cc)

pub syntax_between : (mode : Mode) (reading : List (List ℕ)) (before : SoFar) (rest : List ℕ) →
    mode ≡ between → rest ≢ [] → item_at mode rest ≡ None →
    false ≡ is_some (after_bytes (codes "<![") rest) → false ≡ is_some (external_at rest) →
    Stops mode reading before rest (meets syntax)
syntax_between mode reading before rest e some none s x = no_item (subst IsOfEntity (sym e) tt) (begins_nothing mode rest some none s x)

pub rest_unread : (mode : Mode) (reading : List (List ℕ)) (before first after : SoFar)
    (rest blanks : List ℕ) (after_parameter : Bool) → mode ≡ file after_parameter → rest ≢ [] →
    item_at mode rest ≡ None →
    false ≡ is_some (after_bytes (codes "<![") rest) → false ≡ is_some (external_at rest) → blanks ≡ blank_before after_parameter → first ≡ put blanks before → after ≡ put rest first →
    Stops mode reading before rest (gives after)
rest_unread mode reading before first after rest blanks after_parameter e some none s x blank_is first_is after_is =
    let same : after ≡ put (blank_before after_parameter ++ rest) before = after_is
    ∙ ap (put rest) (first_is ∙ ap (λ l. put l before) blank_is)
    ∙ ap (λ l. record {
      declared = before.declared;
      references = before.references;
      placed = before.placed;
      result =
          l;
    }) (append_assoc before.result (blank_before after_parameter) rest) in
    rw same (unread e (begins_nothing mode rest some none s x))

-- ---- what is left behind an item
pub behind_is : (text front more : List ℕ) (k : ℕ) → drop k text ≡ front ++ more → drop (length text - length more) text ≡ more
behind_is text front more k e =
    let whole : text ≡ (take k text ++ front) ++ more = sym (take-append-drop k text) ∙ ap (λ l. take k text ++ l) e ∙ sym (append_assoc (take k text) front more) in
    ap (λ l. drop (length l - length more) l) whole ∙ drop_at (take k text ++ front) more
    (length ((take k text ++ front) ++ more) - length more)
    (omega (arith, length-append (take k text ++ front) more))

pub item_left : (mode : Mode) (text : List ℕ) (k : ℕ) (i : TextItem) (more : List ℕ) → item_at mode (drop k text) ≡ Some (i, more) → drop (length text - length more) text ≡ more
item_left mode text k i more e = let r = mode_reads mode in let f = r.read (drop k text) i more e in behind_is text f.text more k f.whole

-- ---- what a step leads to
pub nothing_left : (l : List ℕ) → true ≡ (length l == 0) → l ≡ []
nothing_left [] e = refl
nothing_left (b ∷ bs) e = let none = (Decides-eqb (length (b ∷ bs)) 0).0 (sym e) in absurd (omega (arith, none))

abbrev pub behind_of : PlainOpenText → TextItem → List ℕ → PlainOpenText
behind_of p i more = record { mode = mode_behind i p.mode; of_entity = p.of_entity; rest = more; ending = p.ending }

pub behind_place : (p q : PlainOpenText) (i : TextItem) (more rest : List ℕ) (m : Mode) →
    q ≡ record { mode = m; of_entity = p.of_entity; rest = rest; ending = p.ending } →
    m ≡ mode_behind i p.mode → rest ≡ more → q ≡ behind_of p i more
behind_place p q i more rest m q_is m_is rest_is = rw (q_is, m_is, rest_is) refl

pub end_leads : (p : PlainOpenText) (ps : List PlainOpenText) (reading names : List (List ℕ))
    (before after new : SoFar) → Stops p.mode reading before p.rest (gives after) →
    names ≡ names_behind p.of_entity reading → new ≡ finish p.ending after →
    (o : Outcome) → LeadToOutcome ps names new o → LeadToOutcome (p ∷ ps) reading before o
end_leads p ps reading names before after new s n e o l = (gives after, stops s, subst (λ x. LeadToOutcome ps (names_behind p.of_entity reading) x o) e (subst (λ x. LeadToOutcome ps x new o) n l))

pub fault_leads : (p : PlainOpenText) (ps : List PlainOpenText) (reading : List (List ℕ))
    (before : SoFar) (f : Fault) → Stops p.mode reading before p.rest (meets f) →
    LeadToOutcome (p ∷ ps) reading before (meets f)
fault_leads p ps reading before f s = (meets f, stops s, refl)

pub stands_where : (mode : Mode) (rest : List ℕ) (i : TextItem) (more : List ℕ) → item_at mode rest ≡ Some (i, more) → StandsAt mode rest i more
stands_where mode rest i more e = let r = mode_reads mode in stands (r.read rest i more e)

pub put_leads : (p : PlainOpenText) (ps : List PlainOpenText) (reading names : List (List ℕ))
    (before after : SoFar) (i : TextItem) (more : List ℕ) → item_at p.mode p.rest ≡ Some (i, more) →
    Handles p.mode reading before i None names after →
    (o : Outcome) → LeadToOutcome (behind_of p i more ∷ ps) names after o → LeadToOutcome (p ∷ ps) reading before o
put_leads p ps reading names before after (puts bytes) more e h o l =
    let m = subst (λ x. LeadToOutcome (behind_of p (puts bytes) more ∷ ps) x after o) h.1 l in
    let P : SoFar → Type 0 = λ n. Reads p.mode reading n more m.0 in
    (m.0, copies (stands_where p.mode p.rest (puts bytes) more e) (subst P h.0 m.1), m.2)
put_leads p ps reading names before after (reference name) more e h o l = absurd h
put_leads p ps reading names before after (parameter name given) more e h o l = absurd h
put_leads p ps reading names before after (declaration word held) more e h o l = absurd h

abbrev pub Inner : PlainOpenText → PlainOpenText → List (List ℕ) → List (List ℕ) → SoFar → SoFar → TextItem → List ℕ → Type 0
Inner p q reading names before after i more = Opens p.mode reading before p.rest
    record {
      mode = q.mode;
      reading = names;
      before = after;
      text = q.rest;
      ending = q.ending;
      mode_behind = mode_behind i p.mode;
      behind = more;
    } × (names_behind q.of_entity names ≡ reading)

inner_goes_on : (p q : PlainOpenText) (ps : List PlainOpenText) (reading names : List (List ℕ)) (before after : SoFar) (i : TextItem) (more : List ℕ) → Inner p q reading names before after i more →
    (o : Outcome) → LeadToOutcome (q ∷ behind_of p i more ∷ ps) names after o → LeadToOutcome (p ∷ ps) reading before o
inner_goes_on p q ps reading names before after i more opens o l = by l.0 l.1 l.2
  where
    by : (x : Outcome) → Reads q.mode names after q.rest x →
        Comes q.ending (λ n. LeadToOutcome (behind_of p i more ∷ ps)
        (names_behind q.of_entity names) n o) x o → LeadToOutcome (p ∷ ps) reading before o
    by (meets f) r c = (meets f, meets_within opens.0 r, c)
    by (gives n) r c =
        let d = subst (λ x. LeadToOutcome (behind_of p i more ∷ ps) x (finish q.ending n) o) opens.1 c in
        (d.0, goes_on opens.0 r d.1, d.2)

handled_opens : (p q : PlainOpenText) (reading names : List (List ℕ)) (before after : SoFar)
    (i : TextItem) (more : List ℕ) → item_at p.mode p.rest ≡ Some (i, more) →
    Handles p.mode reading before i (Some q) names after → Inner p q reading names before after i more
handled_opens p q reading names before after (puts bytes) more e h = absurd h
handled_opens p q reading names before after (reference name) more e h = (h.opens p.rest more (stands_where p.mode p.rest _ more e), h.names)
handled_opens p q reading names before after (parameter name given) more e h = (h.opens p.rest more (stands_where p.mode p.rest _ more e), h.names)
handled_opens p q reading names before after (declaration word held) more e h = (h.opens p.rest more (stands_where p.mode p.rest _ more e), h.names)

pub inner_leads : (p q : PlainOpenText) (ps : List PlainOpenText) (reading names : List (List ℕ))
    (before after : SoFar) (i : TextItem) (more : List ℕ) → item_at p.mode p.rest ≡ Some (i, more) →
    Handles p.mode reading before i (Some q) names after →
    (o : Outcome) → LeadToOutcome (q ∷ behind_of p i more ∷ ps) names after o → LeadToOutcome (p ∷ ps) reading before o
inner_leads p q ps reading names before after i more e h = inner_goes_on p q ps reading names before after i more (handled_opens p q reading names before after i more e h)

-- ---- less is left
kept_by : {mode : Mode} {reading : List (List ℕ)} {before : SoFar} {rest : List ℕ} {o : Outcome} →
    Stops mode reading before rest o → (after : SoFar) → o ≡ gives after →
    after.references ≡ before.references
kept_by (ends e) after same = let is = same_gives same in ap (λ (s : SoFar). s.references) (sym is)
  where
    same_gives : {a b : SoFar} → gives a ≡ gives b → a ≡ b
    same_gives e = cc
kept_by (refused s r) after same = cc
kept_by (of_section b s) after same = cc
kept_by (of_external b s) after same = cc
kept_by (no_item e b) after same = cc
kept_by (unread e b) after same = let is = same_gives same in ap (λ (s : SoFar). s.references) (sym is)
  where
    same_gives : {a b : SoFar} → gives a ≡ gives b → a ≡ b
    same_gives e = cc

pub end_less : (p : PlainOpenText) (ps : List PlainOpenText) (reading : List (List ℕ))
    (before after new : SoFar) → Stops p.mode reading before p.rest (gives after) →
    new ≡ finish p.ending after → work_left ps new < work_left (p ∷ ps) before
end_less p ps reading before after new s e =
    let first = kept_by s after refl in
    let second : new.references ≡ before.references = ap (λ (n : SoFar). n.references) e ∙ finish_counts p.ending after ∙ first in
    let same : work_left ps new ≡ work_left ps before = ap (λ n. (MAX_REFERENCES - n) * (MAX_PLACED + 2) + room_of ps) second in
    omega (arith, same)

pub put_less : (p : PlainOpenText) (ps : List PlainOpenText) (reading names : List (List ℕ))
    (before after : SoFar) (i : TextItem) (more : List ℕ) → item_at p.mode p.rest ≡ Some (i, more) →
    Handles p.mode reading before i None names after →
    work_left (behind_of p i more ∷ ps) after < work_left (p ∷ ps) before
put_less p ps reading names before after (puts bytes) more e h =
    let less = shorter (Spells p.mode) (item_at p.mode) (mode_reads p.mode) p.rest (puts bytes) more (front (stands_where p.mode p.rest (puts bytes) more e)) in
    let same : work_left (behind_of p (puts bytes) more ∷ ps) after ≡ work_left
    (behind_of p (puts bytes) more ∷ ps) before =
    ap (λ (n : SoFar). (MAX_REFERENCES - n.references) * (MAX_PLACED + 2) + (suc (length more)
    + room_of ps)) h.0 in
    omega (arith, same, less)
put_less p ps reading names before after (reference name) more e h = absurd h
put_less p ps reading names before after (parameter name given) more e h = absurd h
put_less p ps reading names before after (declaration word held) more e h = absurd h

or_false_left : (a b : Bool) → (a || b) ≡ false → a ≡ false
or_false_left true b e = cc
or_false_left false b e = refl

or_false_right : (a b : Bool) → (a || b) ≡ false → b ≡ false
or_false_right true b e = cc
or_false_right false b e = e

spelled_short : {mode : Mode} {rest more : List ℕ} {i : TextItem} → StandsAt mode rest i more → length more < length rest
spelled_short {mode} {rest} {more} {i} s = shorter (Spells mode) (item_at mode) (mode_reads mode) rest i more (front s)

-- the room for the text within and for what is after it
opened_less : {mode : Mode} {reading : List (List ℕ)} {before : SoFar} {rest : List ℕ} {w : Within} → Opens mode reading before rest w → (room : ℕ) →
    (MAX_REFERENCES - w.before.references) * (MAX_PLACED + 2) + (suc (length w.text) + (suc
    (length w.behind) + room)) < (MAX_REFERENCES - before.references) * (MAX_PLACED + 2) + (suc
    (length rest) + room)
opened_less {before} {rest} (of_reference {text} {more} s n) room =
    let less = spelled_short s in
    let counted = ltb-false MAX_REFERENCES (suc before.references) (or_false_left _ _ n.within) in
    let placed = ltb-false MAX_PLACED (before.placed + length text) (or_false_right _ _ n.within) in
    omega arith
opened_less {mode} {before} {rest} (of_parameter {name} {text} {more} s) room = let less = value_room mode rest name text more s in omega (arith, less)
opened_less {mode} {before} {rest} (of_declaration {word} {text} {more} s) room = let less = held_room mode rest word text more s in omega (arith, less)

pub inner_less : (p q : PlainOpenText) (ps : List PlainOpenText) (reading names : List (List ℕ))
    (before after : SoFar) (i : TextItem) (more : List ℕ) → item_at p.mode p.rest ≡ Some (i, more) →
    Handles p.mode reading before i (Some q) names after →
    work_left (q ∷ behind_of p i more ∷ ps) after < work_left (p ∷ ps) before
inner_less p q ps reading names before after i more e h = opened_less (handled_opens p q reading names before after i more e h).0 (room_of ps)

-- ---- the whole file
-- where no text is being read, the result is the file's expansion
pub all_read : (bytes : List ℕ) (ps qs : List PlainOpenText) (reading names : List (List ℕ))
    (before after : SoFar) → LeadToExpansion bytes ps reading before → ((o : Outcome) →
    LeadToOutcome qs names after o → LeadToOutcome ps reading before o) → qs ≡ [] →
    Expands bytes (expanded after.result)
all_read bytes ps qs reading names before after leads step e = leads (gives after) (step (gives after) (subst (λ l. LeadToOutcome l names after (gives after)) (sym e) refl))
