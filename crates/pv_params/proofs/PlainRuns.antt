-- Runs of bytes that are items by themselves are copied.
use Rattle.std.proofs.Common.{◌≡◌, ◌<◌, inl, ℕ, suc, ◌+◌, ◌-◌, ◌*◌, List, [], ◌∷◌, ◌++◌, length, take, drop, true, refl, sym, ap, ◌∙◌, subst, arith, append_assoc, append-nil, length-drop}
use Rattle.std.specs.List.{list_all}
use Rattle.std.proofs.lemmas.Bool.{and_parts, not-true}
use Rattle.pv_params.specs.Items.{Mode, file, between, inside, value, puts}
use Rattle.pv_params.specs.Spelling.{Spells, SpellsInside, SpellsValue}
use Rattle.pv_params.specs.Meaning.{SoFar, put, Outcome, Reads, copies, MAX_REFERENCES, MAX_PLACED}
use Rattle.pv_params.specs.ItemReading.{behind_items, inside_at, value_at, front_of}
use Rattle.pv_params.specs.PlainBytes.{is_plain, IsBehindRun}
use Rattle.pv_params.specs.OpenTexts.{PlainOpenText, LeadToOutcome, room_of, work_left}
use Rattle.pv_params.proofs.Runs.{front_is, next_items}
use Rattle.pv_params.proofs.ItemsRead.{inside_reads}
use Rattle.pv_params.proofs.ValuesRead.{value_reads}

pub plain_spelled : (mode : Mode) (b : ℕ) → is_plain mode b ≡ true → Spells mode (puts (b ∷ [])) (b ∷ [])
plain_spelled (file after) b e = (refl, inl record { byte = b; is_white = e; whole = refl })
plain_spelled between b e = (refl, inl record { byte = b; is_white = e; whole = refl })
plain_spelled inside b e = (refl, inl record { byte = b; is_other = not-true _ e; whole = refl })
plain_spelled value b e = inl (refl, inl record { byte = b; is_other = not-true _ e; whole = refl })

-- such bytes are put one by one
run_reads : (mode : Mode) (reading : List (List ℕ)) (o : Outcome) (run rest : List ℕ)
    (before : SoFar) → list_all (is_plain mode) run ≡ true →
    Reads mode reading (put run before) rest o → Reads mode reading before (run ++ rest) o
run_reads mode reading o [] rest before all r =
    subst (λ l. Reads mode reading
    record {
      declared = before.declared;
      references = before.references;
      placed = before.placed;
      result = l;
    } rest o) (append-nil before.result) r
run_reads mode reading o (b ∷ bs) rest before all r =
    let two = and_parts (is_plain mode b) (list_all (is_plain mode) bs) all in
    let moved = subst (λ l. Reads mode reading
    record {
      declared = before.declared;
      references = before.references;
      placed = before.placed;
      result = l;
    } rest o) (sym (append_assoc before.result (b ∷ []) bs)) r in
    copies record { text = b ∷ []; spelled = plain_spelled mode b two.0; whole = refl } (run_reads mode reading o bs rest (put (b ∷ []) before) two.1 moved)

pub run_leads : (p q : PlainOpenText) (ps : List PlainOpenText) (reading : List (List ℕ)) (before after : SoFar) (more : List ℕ) (b : IsBehindRun p.mode p.rest more) → after ≡ put b.run before →
    q ≡ record { mode = p.mode; of_entity = p.of_entity; rest = more; ending = p.ending } → (o : Outcome) → LeadToOutcome (q ∷ ps) reading after o → LeadToOutcome (p ∷ ps) reading before o
run_leads p q ps reading before after more b a e o l =
    let moved = subst (λ s. LeadToOutcome
    (record { mode = p.mode; of_entity = p.of_entity; rest = more; ending = p.ending } ∷ ps)
    reading s o) a (subst (λ t. LeadToOutcome (t ∷ ps) reading after o) e l) in
    (moved.0, subst (λ t. Reads p.mode reading before t moved.0) (sym b.whole) (run_reads p.mode reading moved.0 b.run more before b.are_plain moved.1), moved.2)

pub run_less : (p q : PlainOpenText) (ps : List PlainOpenText) (before after : SoFar) (more run : List ℕ) → length more < length p.rest → after ≡ put run before →
    q ≡ record { mode = p.mode; of_entity = p.of_entity; rest = more; ending = p.ending } → work_left (q ∷ ps) after < work_left (p ∷ ps) before
run_less p q ps before after more run less a e =
    let counted : after.references ≡ before.references = ap (λ (s : SoFar). s.references) a in
    let left : q.rest ≡ more = ap (λ (t : PlainOpenText). t.rest) e in
    let same : work_left (q ∷ ps) after ≡ (MAX_REFERENCES - before.references) * (MAX_PLACED + 2)
    + (suc (length more) + room_of ps) =
    ap (λ n. (MAX_REFERENCES - n) * (MAX_PLACED + 2) + (suc (length q.rest) + room_of ps))
    counted ∙ ap (λ r. (MAX_REFERENCES - before.references) * (MAX_PLACED + 2) + (suc
    (length r) + room_of ps)) left in
    omega (arith, same, less)

-- what is left of a text, where so many bytes are
left_is : (text : List ℕ) (left k : ℕ) → left < length (drop k text) → length (drop (length text - left) text) ≡ left
left_is text left k less = omega (arith, length-drop k text, length-drop (length text - left) text)

pub left_behind : (text : List ℕ) (left k : ℕ) → left < length (drop k text) → length (drop (length text - left) text) < length (drop k text)
left_behind text left k less = omega (arith, left_is text left k less)

pub run_is_front : (mode : Mode) (text : List ℕ) (left k : ℕ) (b : IsBehindRun mode (drop k text)
    (drop (length text - left) text)) → left < length (drop k text) →
    take (length (drop k text) - left) (drop k text) ≡ b.run
run_is_front mode text left k b less =
    let more = drop (length text - left) text in
    ap (λ n. take (length (drop k text) - n) (drop k text)) (sym (left_is text left k less)) ∙ ap (λ l. front_of l more) b.whole ∙ front_is b.run more

-- all items at the front of a text are those of a run at its front and those after it
inside_run : (run rest : List ℕ) → list_all (is_plain inside) run ≡ true → behind_items inside_at (length rest) rest ≡ behind_items inside_at (length (run ++ rest)) (run ++ rest)
inside_run [] rest all = refl
inside_run (b ∷ bs) rest all =
    let two = and_parts (is_plain inside b) (list_all (is_plain inside) bs) all in
    inside_run bs rest two.1 ∙ next_items SpellsInside inside_at inside_reads (b ∷ (bs ++ rest))
    (puts (b ∷ [])) (bs ++ rest) (inside_reads.is_read (puts (b ∷ [])) (b ∷ []) (bs ++ rest)
    (plain_spelled inside b two.0))

value_run : (run rest : List ℕ) → list_all (is_plain value) run ≡ true → behind_items value_at (length rest) rest ≡ behind_items value_at (length (run ++ rest)) (run ++ rest)
value_run [] rest all = refl
value_run (b ∷ bs) rest all =
    let two = and_parts (is_plain value b) (list_all (is_plain value) bs) all in
    value_run bs rest two.1 ∙ next_items SpellsValue value_at value_reads (b ∷ (bs ++ rest))
    (puts (b ∷ [])) (bs ++ rest) (value_reads.is_read (puts (b ∷ [])) (b ∷ []) (bs ++ rest)
    (plain_spelled value b two.0))

pub inside_behind_run : (bytes rest : List ℕ) → IsBehindRun inside bytes rest → behind_items inside_at (length rest) rest ≡ behind_items inside_at (length bytes) bytes
inside_behind_run bytes rest b = inside_run b.run rest b.are_plain ∙ ap (λ l. behind_items inside_at (length l) l) (sym b.whole)

pub value_behind_run : (bytes rest : List ℕ) → IsBehindRun value bytes rest → behind_items value_at (length rest) rest ≡ behind_items value_at (length bytes) bytes
value_behind_run bytes rest b = value_run b.run rest b.are_plain ∙ ap (λ l. behind_items value_at (length l) l) (sym b.whole)
