-- Characters, comments and processing instructions: what is read is one, and what is one is read.
use Rattle.std.proofs.Common.{◌≡◌, ◌≢◌, ◌≤◌, ◌<◌, ℕ, List, [], ◌∷◌, ◌++◌, codes, length, map, Bool, true, false, ◌&&◌, not, cond, inl, inr, Option}
use Rattle.std.proofs.Common.{Some, None, refl, sym, ap, ◌∙◌, subst, append-nil, length-append, arith}
use Rattle.std.specs.Option.{MatchOption, IfSome}
use Rattle.std.specs.Char.{to_ascii_lowercase}
use Rattle.std.proofs.lemmas.Bool.{and_parts}
use Rattle.std.proofs.lemmas.Slice.Eq.{bytes_eq-Decides}
use Rattle.pv_chars.specs.Spaces.{is_space, IsOptionalSpace}
use Rattle.pv_chars.specs.Characters.{is_char, IsChars, TakesChars}
use Rattle.pv_chars.specs.Names.{TakesName}
use Rattle.pv_chars.specs.Fronts.{Begins, BeginsNone, ContainsBytes, EndsAt}
use Rattle.pv_chars.specs.Markup.{IsComment, IsInstruction, IsBehindTarget}
use Rattle.pv_chars.specs.Scan.{◌>>=◌, after_bytes}
use Rattle.pv_chars.proofs.TextScans.{after_bytes_takes, after_bytes-append}
use Rattle.pv_chars.proofs.CharacterLemmas.{PassScalars, AreAll-append, same_all, nothing_begins}
use Rattle.pv_chars.proofs.Ranges.{char_is_scalar}
use Rattle.pv_chars.proofs.SpaceLemmas.{space_are_chars}
use Rattle.pv_chars.proofs.MarkupLemmas.{comment_by, no_comment_start, no_comment_end, no_comment_text, no_comment_close, one_comment}
use Rattle.pv_chars.proofs.InstructionLemmas.{spaced_by, behind_target_is, instruction_by, no_instruction_start, no_instruction_name}
use Rattle.pv_chars.proofs.InstructionLemmas.{no_instruction_target, no_instruction_end, no_instruction_text, one_instruction}
use Rattle.pv_chars.specs.CharReading.{behind_all, is_nothing, is_chars, name_at, up_to_by, up_to, comment_at, may_follow_target, is_xml, instruction_at}
use Rattle.pv_chars.proofs.OneFront.{found, begun_is_read}
use Rattle.pv_chars.proofs.NameBytes.{behind_all_takes, name_at_takes, no_name}

chars_are_scalars : PassScalars is_char
chars_are_scalars = char_is_scalar

chars_by : (bytes rest : List ℕ) → TakesChars is_char bytes rest → is_nothing rest ≡ true → IsChars bytes
chars_by bytes [] takes e = subst IsChars (sym (takes.whole ∙ append-nil takes.front)) takes.are_all
chars_by bytes (b ∷ bs) takes e = cc

pub chars_are : (bytes : List ℕ) → is_chars bytes ≡ true → IsChars bytes
unfolding is_chars
chars_are bytes e = chars_by bytes (behind_all is_char (length bytes) bytes) (behind_all_takes is_char chars_are_scalars (length bytes) bytes (omega arith)) e

chars_end : (bytes rest : List ℕ) → TakesChars is_char bytes rest → IsChars bytes → is_nothing rest ≡ true
chars_end bytes rest takes is =
    let same = same_all is_char takes.front bytes rest [] takes.are_all is takes.ends (nothing_begins is_char) (sym takes.whole ∙ sym (append-nil bytes)) in
    ap is_nothing same.1

pub are_chars : (bytes : List ℕ) → IsChars bytes → is_chars bytes ≡ true
unfolding is_chars
are_chars bytes is = chars_end bytes (behind_all is_char (length bytes) bytes) (behind_all_takes is_char chars_are_scalars (length bytes) bytes (omega arith)) is

pub chars_behind_space : (space bytes : List ℕ) → IsOptionalSpace space → IsChars bytes → IsChars (space ++ bytes)
chars_behind_space space bytes s is = AreAll-append is_char space bytes (space_are_chars space s) is

no_chars : (bytes : List ℕ) → is_chars bytes ≡ false → IsChars bytes → ⊥
no_chars bytes e is = let some = are_chars bytes is in cc

-- the first place of a delimiter
ends_here : (delimiter bytes rest : List ℕ) → after_bytes delimiter bytes ≡ Some rest → EndsAt delimiter bytes [] rest
ends_here delimiter bytes rest e = record { whole = after_bytes_takes delimiter bytes rest e; first = λ other more w. omega arith }

not_here : (delimiter bytes more : List ℕ) → after_bytes delimiter bytes ≡ None → bytes ≡ delimiter ++ more → ⊥
not_here delimiter bytes more e w = let some = after_bytes-append delimiter more in let at = ap (after_bytes delimiter) w in cc

ends_later : (delimiter : List ℕ) (b : ℕ) (bs before rest : List ℕ) → after_bytes delimiter (b ∷ bs) ≡ None → EndsAt delimiter bs before rest → EndsAt delimiter (b ∷ bs) (b ∷ before) rest
ends_later delimiter b bs before rest none ends = record { whole = ap (λ l. b ∷ l) ends.whole; first = first }
  where
    first : (other more : List ℕ) → b ∷ bs ≡ other ++ (delimiter ++ more) → length (b ∷ before) ≤ length other
    first [] more w = absurd (not_here delimiter (b ∷ bs) more none w)
    first (x ∷ other) more w = let others : bs ≡ other ++ (delimiter ++ more) = cc in let least = ends.first other more others in omega arith

holds_later : (delimiter : List ℕ) (b : ℕ) (bs : List ℕ) → after_bytes delimiter (b ∷ bs) ≡ None → (ContainsBytes bs delimiter → ⊥) → ContainsBytes (b ∷ bs) delimiter → ⊥
holds_later delimiter b bs none below holds = by holds.before holds.whole
  where
    by : (before : List ℕ) → b ∷ bs ≡ before ++ (delimiter ++ holds.after) → ⊥
    by [] w = not_here delimiter (b ∷ bs) holds.after none w
    by (x ∷ before) w = let others : bs ≡ before ++ (delimiter ++ holds.after) = cc in below record { before = before; after = holds.after; whole = others }

abbrev pub Finds : List ℕ → List ℕ → Option (List ℕ × List ℕ) → Type 0
Finds delimiter bytes o = MatchOption o (ContainsBytes bytes delimiter → ⊥) (λ r. EndsAt delimiter bytes r.0 r.1)

finds_by : (delimiter : List ℕ) (b : ℕ) (bs : List ℕ) (later : Option (List ℕ × List ℕ))
    (here : Option (List ℕ)) → after_bytes delimiter (b ∷ bs) ≡ here → Finds delimiter bs later →
    Finds delimiter (b ∷ bs) (up_to_by b later here)
finds_by delimiter b bs later (Some rest) is below = ends_here delimiter (b ∷ bs) rest is
finds_by delimiter b bs None None is below = holds_later delimiter b bs is below
finds_by delimiter b bs (Some r) None is below = ends_later delimiter b bs r.0 r.1 is below

pub finds : (d : ℕ) (ds bytes : List ℕ) → Finds (d ∷ ds) bytes (up_to (d ∷ ds) bytes)
unfolding up_to
finds d ds [] = λ holds. omega (arith, ap length holds.whole, length-append holds.before ((d ∷ ds) ++ holds.after))
finds d ds (b ∷ bs) = finds_by (d ∷ ds) b bs (up_to (d ∷ ds) bs) (after_bytes (d ∷ ds) (b ∷ bs)) refl (finds d ds bs)

pub no_start : (front bytes : List ℕ) → after_bytes front bytes ≡ None → (rest : List ℕ) → bytes ≢ front ++ rest
no_start front bytes e rest w = not_here front bytes rest e w

-- comments
abbrev pub TellsComment : List ℕ → Option (List ℕ) → Type 0
TellsComment bytes o = MatchOption o (BeginsNone IsComment bytes) (Begins IsComment bytes)

closes_comment : (bytes inside text end : List ℕ) → bytes ≡ codes "<!--" ++ inside →
    EndsAt (codes "--") inside text end → (chars : Bool) → is_chars text ≡ chars →
    (o : Option (List ℕ)) → after_bytes (codes ">") end ≡ o → TellsComment bytes (cond chars o None)
closes_comment bytes inside text end e ends false c o is = no_comment_text bytes inside text end e ends (no_chars text c)
closes_comment bytes inside text end e ends true c None is = no_comment_close bytes inside text end e ends (no_start (codes ">") end is)
closes_comment bytes inside text end e ends true c (Some rest) is = comment_by bytes inside text end rest e ends (chars_are text c) (after_bytes_takes (codes ">") end rest is)

pub tells_comment : (bytes : List ℕ) → TellsComment bytes (comment_at bytes)
unfolding comment_at
tells_comment bytes = unit_opens (after_bytes (codes "<!--") bytes) refl
  where
    ends_by : (inside : List ℕ) → bytes ≡ codes "<!--" ++ inside → (o : Option (List ℕ × List ℕ)) →
        Finds (codes "--") inside o → TellsComment bytes (o >>= λ ends. cond (is_chars ends.0)
        (after_bytes (codes ">") ends.1) None)
    ends_by inside e None f = no_comment_end bytes inside e f
    ends_by inside e (Some r) f = closes_comment bytes inside r.0 r.1 e f (is_chars r.0) refl (after_bytes (codes ">") r.1) refl

    unit_opens : (o : Option (List ℕ)) → after_bytes (codes "<!--") bytes ≡ o →
        TellsComment bytes (o >>= λ inside. up_to (codes "--") inside >>= λ ends. cond
        (is_chars ends.0) (after_bytes (codes ">") ends.1) None)
    unit_opens None is = no_comment_start bytes (no_start (codes "<!--") bytes is)
    unit_opens (Some inside) is = ends_by inside (after_bytes_takes (codes "<!--") bytes inside is) (up_to (codes "--") inside) (finds 45 (45 ∷ []) inside)

-- processing instructions
abbrev pub TellsInstruction : List ℕ → Option (List ℕ) → Type 0
TellsInstruction bytes o = MatchOption o (BeginsNone IsInstruction bytes) (Begins IsInstruction bytes)

follows : (text : List ℕ) → may_follow_target text ≡ true → IsBehindTarget text
follows [] e = inl refl
follows (b ∷ bs) e = let two = and_parts (is_space b) (is_chars bs) e in inr (spaced_by b bs two.0 (chars_are bs two.1))

must_follow : (text : List ℕ) → IsBehindTarget text → may_follow_target text ≡ true
must_follow [] is = refl
must_follow (b ∷ bs) is = let two = behind_target_is b bs is in rw (two.0, are_chars bs two.1) refl

closes_instruction : (bytes start target after text rest : List ℕ) → bytes ≡ codes "<?" ++ start →
    TakesName start target after → EndsAt (codes "?>") after text rest → (xml may : Bool) →
    is_xml target ≡ xml → may_follow_target text ≡ may →
    TellsInstruction bytes (cond (not xml && may) (Some rest) None)
closes_instruction bytes start target after text rest e named ends true may x m =
    no_instruction_target bytes start target after e named
    ((bytes_eq-Decides (map to_ascii_lowercase target) (codes "xml")).0 x)
closes_instruction bytes start target after text rest e named ends false false x m = no_instruction_text bytes start target after text rest e named ends (λ is. let some = must_follow text is in cc)
closes_instruction bytes start target after text rest e named ends false true x m =
    instruction_by bytes start target after text rest e
    record {
      named = named;
      not_xml = λ xml. let some = (bytes_eq-Decides
          (map to_ascii_lowercase target) (codes "xml")).1 xml in cc;
      ends = ends;
      is_behind = follows text m;
    }

abbrev closed : List ℕ → List ℕ × List ℕ → Option (List ℕ)
closed target ends = cond (not (is_xml target) && may_follow_target ends.0) (Some ends.1) None

pub tells_instruction : (bytes : List ℕ) → TellsInstruction bytes (instruction_at bytes)
unfolding instruction_at
tells_instruction bytes = unit_opens (after_bytes (codes "<?") bytes) refl
  where
    ends_by : (start target after : List ℕ) → bytes ≡ codes "<?" ++ start →
        TakesName start target after → (o : Option (List ℕ × List ℕ)) → Finds (codes "?>") after o →
        TellsInstruction bytes (o >>= closed target)
    ends_by start target after e named None f = no_instruction_end bytes start target after e named f
    ends_by start target after e named (Some r) f = closes_instruction bytes start target after r.0 r.1 e named f (is_xml target) (may_follow_target r.0) refl refl

    named_by : (start : List ℕ) → bytes ≡ codes "<?" ++ start → (o : Option (List ℕ × List ℕ)) →
        name_at start ≡ o → TellsInstruction bytes (o >>= λ target. up_to (codes "?>") target.1 >>=
        closed target.0)
    named_by start e None is = no_instruction_name bytes start e (no_name start is)
    named_by start e (Some t) is = ends_by start t.0 t.1 e (name_at_takes start t.0 t.1 is) (up_to (codes "?>") t.1) (finds 63 (62 ∷ []) t.1)

    unit_opens : (o : Option (List ℕ)) → after_bytes (codes "<?") bytes ≡ o → TellsInstruction bytes (o >>= λ start. name_at start >>= λ target. up_to (codes "?>") target.1 >>= closed target.0)
    unit_opens None is = no_instruction_start bytes (no_start (codes "<?") bytes is)
    unit_opens (Some start) is = named_by start (after_bytes_takes (codes "<?") bytes start is) (name_at start) refl

pub comment_takes : (bytes rest : List ℕ) → comment_at bytes ≡ Some rest → Begins IsComment bytes rest
comment_takes = found IsComment comment_at tells_comment one_comment

pub comment_at-append : (text rest : List ℕ) → IsComment text → comment_at (text ++ rest) ≡ Some rest
comment_at-append text rest is = begun_is_read IsComment comment_at tells_comment one_comment (text ++ rest) rest record { item = text; is_item = is; whole = refl }

pub comment_opens : (text : List ℕ) → IsComment text → (inside : List ℕ) × (text ≡ codes "<!--" ++ inside)
comment_opens text is = (is.text ++ codes "-->", is.whole)

pub instruction_takes : (bytes rest : List ℕ) → instruction_at bytes ≡ Some rest → Begins IsInstruction bytes rest
instruction_takes = found IsInstruction instruction_at tells_instruction one_instruction

pub instruction_at-append : (text rest : List ℕ) → IsInstruction text → instruction_at (text ++ rest) ≡ Some rest
instruction_at-append text rest is = begun_is_read IsInstruction instruction_at tells_instruction one_instruction (text ++ rest) rest record { item = text; is_item = is; whole = refl }

pub instruction_opens : (text : List ℕ) → IsInstruction text → (inside : List ℕ) × (text ≡ codes "<?" ++ inside)
instruction_opens text is = (is.target ++ (is.behind ++ codes "?>"), is.whole)

-- an item that opens with some bytes takes some
pub item_shorter : {A : Type 0} (IsItem : List ℕ → Type 0) (b : ℕ) (front : List ℕ) →
    ((text : List ℕ) → IsItem text → (inside : List ℕ) × (text ≡ (b ∷ front) ++ inside)) →
    (f : A → List ℕ) (bytes : List ℕ) (o : Option A) → MatchOption o (BeginsNone IsItem bytes)
    (λ r. Begins IsItem bytes (f r)) → IfSome o (λ r. length (f r) < length bytes)
item_shorter IsItem b front unit_opens f bytes None m = tt
item_shorter IsItem b front unit_opens f bytes (Some r) m = let is = unit_opens m.item m.is_item in
    omega (
      arith,
      ap length m.whole,
      length-append m.item (f r),
      ap length is.1,
      length-append (b ∷ front) is.0,
    )
