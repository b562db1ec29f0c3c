-- Items of the mode Between: what is read is spelled so, and what is spelled so is read.
use Rattle.std.proofs.Common.{◌≡◌, ◌≢◌, ◌⊎◌, inl, inr, ℕ, List, [], ◌∷◌, ◌++◌, codes, false, ◌==◌, Some, None, refl, sym, ap, ◌∙◌, append_assoc, subst}
use Rattle.pv_chars.specs.Spaces.{is_space}
use Rattle.pv_chars.specs.Markup.{IsComment, IsInstruction}
use Rattle.pv_chars.proofs.TextScans.{begins, after_bytes_takes, chosen}
use Rattle.pv_params.specs.Items.{TextItem, puts, reference, parameter, declaration}
use Rattle.pv_params.specs.Spelling.{IsPEReference, IsWhite, IsWord, SpellsBetween, IsConditional, IsExternal}
use Rattle.pv_chars.proofs.ReaderSteps.{bound, same_some}
use Rattle.pv_chars.specs.CharReading.{comment_at, instruction_at, quoted_at}
use Rattle.pv_chars.proofs.CharFacts.{comment_takes, comment_at-append, instruction_takes, instruction_at-append}
use Rattle.pv_params.specs.ItemReading.{or_else, named_at, reference_at, parameter_named, parameter_given, parameter_at, keyword_at, declaration_at, white_at, between_at, external_word, external_at}
use Rattle.pv_params.proofs.Runs.{Front, Reads}
use Rattle.pv_params.proofs.ItemsRead.{either, first_is, second_is, neither_is, copied_is, copied_none, front_copied, front_reference, reference_is}
use Rattle.pv_params.proofs.DeclarationsRead.{declaration_read, declaration_is, named_read, named_is, regrouped, parameter_read, parameter_is, no_declaration}

-- ---- white space
front_white : (bytes : List ℕ) (x : TextItem × List ℕ) → white_at bytes ≡ Some x → Front SpellsBetween bytes x.0 x.1
unfolding white_at
front_white [] x e = cc
front_white (b ∷ bs) x e =
    let c = chosen (is_space b) _ x e in
    let P : TextItem × List ℕ → Type 0 = λ y. Front SpellsBetween (b ∷ bs) y.0 y.1 in
    subst P (same_some _ _ c.1) record { text = b ∷ []; spelled = (refl, inl record { byte = b; is_white = c.0; whole = refl }); whole = refl }

white_is : (text rest : List ℕ) → IsWhite text → white_at (text ++ rest) ≡ Some (puts text, rest)
unfolding white_at
white_is text rest is = rw (is.whole, is.is_white) refl

no_white : (b : ℕ) (bs : List ℕ) → is_space b ≡ false → white_at (b ∷ bs) ≡ None
unfolding white_at
no_white b bs e = rw e refl

-- ---- what begins otherwise
no_comment_at : (b : ℕ) (rest : List ℕ) → (60 == b) ≡ false → comment_at (b ∷ rest) ≡ None
unfolding comment_at
no_comment_at b rest e = rw e refl

no_instruction_at : (b : ℕ) (rest : List ℕ) → (60 == b) ≡ false → instruction_at (b ∷ rest) ≡ None
unfolding instruction_at
no_instruction_at b rest e = rw e refl

no_comment_question : (rest : List ℕ) → comment_at (codes "<?" ++ rest) ≡ None
unfolding comment_at
no_comment_question rest = refl

-- none of the others stands at the front of a declaration
record NoOther (bytes : List ℕ) : Type 0 where
  white : white_at bytes ≡ None
  comment : comment_at bytes ≡ None
  instruction : instruction_at bytes ≡ None
  reference : reference_at bytes ≡ None

no_other : (b : ℕ) (rest : List ℕ) → (45 == b) ≡ false → NoOther (60 ∷ 33 ∷ b ∷ rest)
unfolding comment_at instruction_at reference_at named_at white_at
no_other b rest e = record { white = refl; comment = rw e refl; instruction = refl; reference = refl }

no_other_word : (word rest : List ℕ) → IsWord word → NoOther (word ++ rest)
no_other_word word rest (inl is) = rw is (no_other 69 (codes "LEMENT" ++ rest) refl)
no_other_word word rest (inr (inl is)) = rw is (no_other 65 (codes "TTLIST" ++ rest) refl)
no_other_word word rest (inr (inr (inl is))) = rw is (no_other 69 (codes "NTITY" ++ rest) refl)
no_other_word word rest (inr (inr (inr is))) = rw is (no_other 78 (codes "OTATION" ++ rest) refl)

-- ---- mode Between
abbrev Reading : List ℕ → TextItem × List ℕ → Type 0
Reading bytes x = Front SpellsBetween bytes x.0 x.1

between_read : (bytes : List ℕ) (i : TextItem) (rest : List ℕ) → between_at bytes ≡ Some (i, rest) → Front SpellsBetween bytes i rest
unfolding between_at
between_read bytes i rest e =
    either (Reading bytes) _ _ (i, rest) e (front_white bytes (i, rest))
    (λ f. either (Reading bytes) _ _ (i, rest) f (front_copied SpellsBetween bytes (comment_at bytes) (i, rest) IsComment (comment_takes bytes) (λ text is. (refl, inr (inl is))))
    (λ g. either (Reading bytes) _ _ (i, rest) g (front_copied SpellsBetween bytes (instruction_at bytes) (i, rest) IsInstruction (instruction_takes bytes) (λ text is. (refl, inr (inr is))))
    (λ h. either (Reading bytes) _ _ (i, rest) h (front_reference SpellsBetween bytes (i, rest) (λ name text is. is))
    (λ k. either (Reading bytes) _ _ (i, rest) k (declaration_read bytes (i, rest)) (parameter_read bytes (i, rest))))))

behind_others : (bytes : List ℕ) (x : TextItem × List ℕ) → NoOther bytes → or_else (declaration_at bytes) (parameter_at bytes) ≡ Some x → between_at bytes ≡ Some x
unfolding between_at
behind_others bytes x others e = second_is _ _ x others.white (second_is _ _ x
    (copied_none bytes _ others.comment) (second_is _ _ x (copied_none bytes _ others.instruction)
    (second_is _ _ x others.reference e)))

none_behind_others : (bytes : List ℕ) → NoOther bytes → declaration_at bytes ≡ None → parameter_at bytes ≡ None → between_at bytes ≡ None
unfolding between_at
none_behind_others bytes others d p = neither_is _ _ others.white
    (neither_is _ _ (copied_none bytes _ others.comment)
    (neither_is _ _ (copied_none bytes _ others.instruction) (neither_is _ _ others.reference
    (neither_is _ _ d p))))

white_is_read : (text rest : List ℕ) → IsWhite text → between_at (text ++ rest) ≡ Some (puts text, rest)
unfolding between_at
white_is_read text rest is = first_is _ _ (puts text, rest) (white_is text rest is)

comment_is_read : (text rest : List ℕ) → IsComment text → between_at (text ++ rest) ≡ Some (puts text, rest)
unfolding between_at
comment_is_read text rest is =
    let white : white_at (text ++ rest) ≡ None = rw is.whole (no_white 60 ((codes "!--" ++ (is.text ++ codes "-->")) ++ rest) refl) in
    second_is _ _ (puts text, rest) white (first_is _ _ (puts text, rest) (copied_is text rest _ (comment_at-append text rest is)))

instruction_is_read : (text rest : List ℕ) → IsInstruction text → between_at (text ++ rest) ≡ Some (puts text, rest)
unfolding between_at
instruction_is_read text rest is =
    let more = (is.target ++ (is.behind ++ codes "?>")) ++ rest in
    let white : white_at (text ++ rest) ≡ None = rw is.whole (no_white 60 (63 ∷ more) refl) in
    let comment : comment_at (text ++ rest) ≡ None = rw is.whole (no_comment_question more) in
    second_is _ _ (puts text, rest) white (second_is _ _ (puts text, rest) (copied_none (text
    ++ rest) _ comment) (first_is _ _ (puts text, rest) (copied_is text rest _
    (instruction_at-append text rest is))))

reference_is_read : (name text rest : List ℕ) → IsPEReference name text → between_at (text ++ rest) ≡ Some (reference name, rest)
unfolding between_at
reference_is_read name text rest is =
    let more = (name ++ codes ";") ++ rest in
    let white : white_at (text ++ rest) ≡ None = rw is.whole (no_white 37 more refl) in
    let comment : comment_at (text ++ rest) ≡ None = rw is.whole (no_comment_at 37 more refl) in
    let instruction : instruction_at (text ++ rest) ≡ None = rw is.whole (no_instruction_at 37 more refl) in
    second_is _ _ (reference name, rest) white (second_is _ _ (reference name, rest)
    (copied_none (text ++ rest) _ comment) (second_is _ _ (reference name, rest)
    (copied_none (text ++ rest) _ instruction) (first_is _ _ (reference name, rest)
    (reference_is name text rest is))))

between_is_read : (i : TextItem) (text rest : List ℕ) → SpellsBetween i text → between_at (text ++ rest) ≡ Some (i, rest)
between_is_read (puts result) text rest (same, inl is) = subst (λ r. between_at (text ++ rest) ≡ Some (puts r, rest)) (sym same) (white_is_read text rest is)
between_is_read (puts result) text rest (same, inr (inl is)) = subst (λ r. between_at (text ++ rest) ≡ Some (puts r, rest)) (sym same) (comment_is_read text rest is)
between_is_read (puts result) text rest (same, inr (inr is)) = subst (λ r. between_at (text ++ rest) ≡ Some (puts r, rest)) (sym same) (instruction_is_read text rest is)
between_is_read (reference name) text rest s = reference_is_read name text rest s
between_is_read (parameter name given) text rest s =
    let cut : text ++ rest ≡ codes "<!ENTITY"
    ++ (s.before ++ (codes "%"
    ++ (s.after ++ (name ++ (s.behind ++ (s.quoted ++ (s.end ++ (codes ">" ++ rest)))))))) =
    ap (λ l. l ++ rest) s.whole ∙ regrouped s.before s.after name s.behind s.quoted s.end rest in
    let others : NoOther (text ++ rest) = subst NoOther (sym cut) (no_other_word (codes "<!ENTITY") _ (inr (inr (inl refl)))) in
    let other : declaration_at (text ++ rest) ≡ None = ap declaration_at cut
    ∙ no_declaration s.before s.after (name
    ++ (s.behind ++ (s.quoted ++ (s.end ++ (codes ">" ++ rest))))) s.space_before s.space_after in
    behind_others (text ++ rest) (parameter name given, rest) others (second_is _ _ (parameter name given, rest) other (parameter_is name given text rest s))
between_is_read (declaration word held) text rest s =
    let cut : text ++ rest ≡ word ++ ((held ++ codes ">") ++ rest) = ap (λ l. l ++ rest) s.whole ∙ append_assoc word (held ++ codes ">") rest in
    let others : NoOther (text ++ rest) = subst NoOther (sym cut) (no_other_word word _ s.is_word) in
    behind_others (text ++ rest) (declaration word held, rest) others (first_is _ _ (declaration word held, rest) (declaration_is word held text rest s))

between_some : (i : TextItem) (text : List ℕ) → SpellsBetween i text → text ≢ []
between_some (puts result) text (same, inl is) e = let w = is.whole in cc
between_some (puts result) text (same, inr (inl is)) e = let w = is.whole in cc
between_some (puts result) text (same, inr (inr is)) e = let w = is.whole in cc
between_some (reference name) text s e = let w = s.whole in cc
between_some (parameter name given) text s e = let w = s.whole in cc
between_some (declaration word held) text s e = by s.is_word s.whole
  where
    by : IsWord word → text ≡ word ++ (held ++ codes ">") → ⊥
    by (inl is) w = let t = rw is at w in cc
    by (inr (inl is)) w = let t = rw is at w in cc
    by (inr (inr (inl is))) w = let t = rw is at w in cc
    by (inr (inr (inr is))) w = let t = rw is at w in cc

pub between_reads : Reads SpellsBetween between_at
between_reads = record { read = between_read; is_read = between_is_read; some = between_some }

-- ---- what is refused by its front
no_section_item : (more : List ℕ) → (declaration_at (codes "<![" ++ more) ≡ None) × (parameter_at (codes "<![" ++ more) ≡ None)
unfolding declaration_at keyword_at or_else parameter_at parameter_named
no_section_item more = (refl, refl)

pub no_item_in_section : (rest : List ℕ) → IsConditional rest → between_at rest ≡ None
no_item_in_section rest is =
    let none = no_section_item is.0 in
    rw is.1 (none_behind_others (codes "<![" ++ is.0) (no_other 91 is.0 refl) none.0 none.1)

external_begins : (word more : List ℕ) → (word ≡ codes "SYSTEM") ⊎ (word ≡ codes "PUBLIC") →
    (begins is_space (word ++ more) ≡ false) × (parameter_given (word ++ more) ≡ None)
    × (external_word (word ++ more) ≡ Some more)
unfolding parameter_given quoted_at external_word or_else
external_begins word more (inl is) = rw is (refl, refl, refl)
external_begins word more (inr is) = rw is (refl, refl, refl)

external_named : (rest : List ℕ) (is : IsExternal rest) → parameter_named rest ≡ Some (is.name, is.word ++ is.more)
external_named rest is = ap parameter_named is.whole ∙ named_is is.before is.after is.name is.behind
    (is.word ++ is.more) is.space_before is.space_after is.is_name is.space_behind
    (external_begins is.word is.more is.is_word).0

no_parameter_external : (rest : List ℕ) → IsExternal rest → parameter_at rest ≡ None
unfolding parameter_at
no_parameter_external rest is = rw (external_named rest is, (external_begins is.word is.more is.is_word).1) refl

pub no_item_in_external : (rest : List ℕ) → IsExternal rest → between_at rest ≡ None
no_item_in_external rest is =
    let others : NoOther rest = subst NoOther (sym is.whole) (no_other_word (codes "<!ENTITY") _ (inr (inr (inl refl)))) in
    none_behind_others rest others (ap declaration_at is.whole ∙ no_declaration is.before is.after
    (is.name ++ (is.behind ++ (is.word ++ is.more))) is.space_before is.space_after)
    (no_parameter_external rest is)

pub external_is_read : (rest : List ℕ) (is : IsExternal rest) → external_at rest ≡ Some is.more
unfolding external_at
external_is_read rest is = rw (external_named rest is, (external_begins is.word is.more is.is_word).2) refl

word_of : (bytes rest : List ℕ) → external_word bytes ≡ Some rest → (word : List ℕ) × ((word ≡ codes "SYSTEM") ⊎ (word ≡ codes "PUBLIC")) × (bytes ≡ word ++ rest)
unfolding external_word
word_of bytes rest e =
    either (λ r. (word : List ℕ) × ((word ≡ codes "SYSTEM") ⊎ (word ≡ codes "PUBLIC")) × (bytes ≡ word ++ r)) _ _ rest e
    (λ f. (codes "SYSTEM", inl refl, after_bytes_takes (codes "SYSTEM") bytes rest f))
    (λ f. (codes "PUBLIC", inr refl, after_bytes_takes (codes "PUBLIC") bytes rest f))

pub external_read : (bytes rest : List ℕ) → external_at bytes ≡ Some rest → IsExternal bytes
unfolding external_at
external_read bytes rest e =
    let named = bound (parameter_named bytes) _ rest e in
    let n = named_read bytes named.value named.first in
    let w = word_of named.value.1 rest named.others in
    record {
      before = n.before;
      after = n.after;
      name = named.value.0;
      behind = n.behind;
      word = w.0;
      more = rest;
      space_before = n.space_before;
      space_after = n.space_after;
      is_name = n.is_name;
      space_behind = n.space_behind;
      is_word = w.1;
      whole = n.whole ∙ ap (λ l. codes "<!ENTITY" ++ (n.before ++ (codes "%" ++ (n.after ++ (named.value.0 ++ (n.behind ++ l)))))) w.2;
    }
