-- Items: what is read is spelled so, and what is spelled so is read.
use Rattle.std.proofs.Common.{◌≡◌, ◌⊎◌, inl, inr, ℕ, suc, ◌-◌, List, [], ◌∷◌, ◌++◌, length, take, codes, Bool, true, false, ◌&&◌, ◌==◌, not, Option}
use Rattle.std.proofs.Common.{Some, None, refl, sym, ap, ◌∙◌, append_assoc, length-append, subst, arith}
use Rattle.std.proofs.lemmas.Bool.Decides.{Decides-eqb}
use Rattle.std.proofs.lemmas.Bool.{and_parts}
use Rattle.std.proofs.lemmas.List.{take_at}
use Rattle.std.specs.List.{list_all}
use Rattle.pv_chars.specs.Spaces.{is_space, IsSpace, IsOptionalSpace}
use Rattle.pv_chars.specs.Scan.{after_space, after_blank, after_bytes}
use Rattle.pv_chars.proofs.TextScans.{after_space_takes, after_space-append, after_blank_takes, after_blank-append, after_bytes_takes, after_bytes-append, chosen}
use Rattle.pv_chars.proofs.Beginnings.{begins_in_space, begins_behind}
use Rattle.pv_chars.specs.CharReading.{name_at, is_chars, comment_at, instruction_at, text_declaration_at}
use Rattle.pv_dtd.specs.Items.{NamedModel, DtdItem, text_declaration, element, skipped, comment, instruction}
use Rattle.pv_chars.specs.Declarations.{is_quote}
use Rattle.pv_dtd.specs.Spelling.{StandsAt, Spells, SpellsElement, SpellsSkipped, MayStand, IsSkippedWord, may_not_be_skipped}
use Rattle.pv_chars.specs.Declarations.{is_one_of}
use Rattle.pv_dtd.specs.ItemReading.{or_else, model_at, element_at, skipped_word, after_white, stop_at, where_it_is, after_stop, behind_chars, skipped_at, read_as, front_at, item_at}
use Rattle.pv_dtd.specs.SoFar.{IsShallow, IsShallowItem}
use Rattle.pv_chars.proofs.ReaderSteps.{bound, same_some}
use Rattle.pv_chars.proofs.NameBytes.{is_name_byte, names_have_no_space, name_at_takes, name_at-append, name_begins, space_passes}
use Rattle.pv_chars.proofs.CharFacts.{chars_are, are_chars, chars_behind_space, comment_takes, comment_at-append, comment_opens, instruction_takes, instruction_at-append, instruction_opens}
use Rattle.pv_chars.proofs.TextDeclarations.{no_declaration, declaration_takes, text_declaration_at-append, declaration_opens}
use Rattle.pv_dtd.proofs.PartsSpelled.{goes_on, particles_have_no_space}
use Rattle.pv_dtd.proofs.ModelsRead.{model_reads}
use Rattle.pv_dtd.proofs.ModelsSpelled.{model_is_read, model_begins}
use Rattle.pv_dtd.proofs.QuotedText.{Stops, stops_takes, stop_at-append, plain_before}

pub record Begun (front : Bool) (bytes : List ℕ) (x : DtdItem × List ℕ) : Type 0 where
  pub begun : StandsAt front bytes x.0 x.1
  pub shallow : IsShallowItem x.0

-- the one or the other
pub record Either {A : Type 0} (first second : Option A) (y : A) : Type 0 where
  pub is : (first ≡ Some y) ⊎ ((first ≡ None) × (second ≡ Some y))

pub either : {A : Type 0} (first second : Option A) (y : A) → or_else first second ≡ Some y → Either first second y
unfolding or_else
either None second y e = record { is = inr (refl, e) }
either (Some x) second y e = record { is = inl e }

-- what either of two readers reads
pub either_read : {A : Type 0} (P : A → Type 0) (first second : Option A) (x : A) → or_else first second ≡ Some x → (first ≡ Some x → P x) → (second ≡ Some x → P x) → P x
either_read P first second x e f g = elim (either first second x e).is [ inl a ↦ f a | inr b ↦ g b.1 ]

element_joined : (bytes blank before start name after_name between spec model behind after place rest : List ℕ) →
    bytes ≡ codes "<!ELEMENT" ++ blank → blank ≡ before ++ start → start ≡ name ++ after_name →
    after_name ≡ between ++ spec → spec ≡ model ++ behind → behind ≡ after ++ place →
    place ≡ codes ">" ++ rest →
    bytes ≡ (codes "<!ELEMENT" ++ before ++ name ++ between ++ model ++ after ++ codes ">") ++ rest
element_joined bytes blank before start name after_name between spec model behind after place rest a b c d e f g = rw (a, b, c, d, e, f, g) (simp append_assoc)

element_read : (front : Bool) (bytes : List ℕ) (x : DtdItem × List ℕ) → element_at bytes ≡ Some x → Begun front bytes x
unfolding element_at
element_read front bytes x e =
    let blank = bound (after_bytes (codes "<!ELEMENT") bytes) _ x e in
    let start = bound (after_blank blank.value) _ x blank.others in
    let word = bound (name_at start.value) _ x start.others in
    let spec = bound (after_blank word.value.1) _ x word.others in
    let model = bound (model_at spec.value) _ x spec.others in
    let rest = bound (after_bytes (codes ">") (after_space model.value.1)) _ x model.others in
    let before = after_blank_takes blank.value start.value start.first in
    let named = name_at_takes start.value word.value.0 word.value.1 word.first in
    let between = after_blank_takes word.value.1 spec.value spec.first in
    let modelled = model_reads spec.value model.value model.first in
    let after = after_space_takes model.value.1 in
    subst (Begun front bytes) (same_some _ _ rest.others) record {
      begun = record {
        text = codes "<!ELEMENT" ++ before.space ++ word.value.0 ++ between.space ++ modelled.text ++ after.space ++ codes ">";
        spelled = record {
          before_name = before.space;
          before_spec = between.space;
          spec = modelled.text;
          after = after.space;
          space_before_name = before.some;
          is_name = named.is_name;
          space_before_spec = between.some;
          is_spec = modelled.spelled.0;
          space_after = after.optional;
          whole = refl;
        };
        may_stand = tt;
        whole = element_joined bytes blank.value before.space start.value word.value.0 word.value.1
            between.space spec.value modelled.text model.value.1 after.space
            (after_space model.value.1) rest.value
            (after_bytes_takes (codes "<!ELEMENT") bytes blank.value blank.first) before.whole
            named.whole between.whole modelled.whole after.whole (after_bytes_takes (codes ">")
            (after_space model.value.1) rest.value rest.first);
      };
      shallow = modelled.spelled.1;
    }

element_regrouped : (before name between model after rest : List ℕ) → (codes "<!ELEMENT" ++ before
    ++ name ++ between ++ model ++ after ++ codes ">") ++ rest ≡ codes "<!ELEMENT"
    ++ (before ++ (name ++ (between ++ (model ++ (after ++ (codes ">" ++ rest))))))
element_regrouped before name between model after rest = simp append_assoc

element_is_read : (name : List ℕ) (model : NamedModel) (text rest : List ℕ) → SpellsElement name model text → IsShallow model → element_at (text ++ rest) ≡ Some (element name model, rest)
unfolding element_at
element_is_read name model text rest s shallow =
    let whole = ap (λ l. l ++ rest) s.whole ∙ element_regrouped s.before_name name s.before_spec s.spec s.after rest in
    let tail = s.after ++ (codes ">" ++ rest) in
    let blank = after_blank-append s.before_name (name ++ (s.before_spec ++ (s.spec ++ tail))) s.space_before_name (name_begins name _ s.is_name) in
    let named = name_at-append name (s.before_spec ++ (s.spec ++ tail)) s.is_name (begins_in_space is_name_byte names_have_no_space s.before_spec _ s.space_before_spec) in
    let between = after_blank-append s.before_spec (s.spec ++ tail) s.space_before_spec (model_begins model s.spec tail s.is_spec) in
    let modelled = model_is_read model s.spec s.is_spec shallow tail (begins_behind goes_on particles_have_no_space s.after (codes ">" ++ rest) s.space_after refl) in
    let after = after_space-append s.after (codes ">" ++ rest) s.space_after refl in
    rw (whole, blank, named, between, modelled, after) refl

-- one of the words in front
pub record TakesWord (bytes rest : List ℕ) : Type 0 where
  pub word : List ℕ
  pub is_word : IsSkippedWord word
  pub whole : bytes ≡ word ++ rest

pub word_takes : (bytes rest : List ℕ) → skipped_word bytes ≡ Some rest → TakesWord bytes rest
unfolding skipped_word
word_takes bytes rest e =
    either_read (TakesWord bytes) _ _ rest e
    (λ f. record { word = codes "<!ATTLIST"; is_word = inl refl; whole = after_bytes_takes (codes "<!ATTLIST") bytes rest f })
    (λ f. either_read (TakesWord bytes) _ _ rest f
    (λ g. record { word = codes "<!ENTITY"; is_word = inr (inl refl); whole = after_bytes_takes (codes "<!ENTITY") bytes rest g })
    (λ g. record { word = codes "<!NOTATION"; is_word = inr (inr refl); whole = after_bytes_takes (codes "<!NOTATION") bytes rest g }))

pub word_is_taken : (word rest : List ℕ) → IsSkippedWord word → skipped_word (word ++ rest) ≡ Some rest
unfolding skipped_word or_else
word_is_taken word rest (inl is) = rw is refl
word_is_taken word rest (inr (inl is)) = rw is refl
word_is_taken word rest (inr (inr is)) = rw is refl

record TakesWhite (bytes rest : List ℕ) : Type 0 where
  byte : ℕ
  white : is_space byte ≡ true
  whole : bytes ≡ byte ∷ rest

white_takes : (bytes rest : List ℕ) → after_white bytes ≡ Some rest → TakesWhite bytes rest
unfolding after_white
white_takes [] rest e = cc
white_takes (b ∷ bs) rest e = let is = chosen (is_space b) (Some bs) rest e in record { byte = b; white = is.0; whole = ap (λ r. b ∷ r) (same_some _ _ is.1) }

pub stop_is : (byte : ℕ) (stop : ℕ × List ℕ) (rest : List ℕ) → where_it_is byte stop ≡ Some rest → stop ≡ (byte, rest)
unfolding where_it_is
stop_is byte stop rest e = let is = chosen (stop.0 == byte) (Some stop.1) rest e in
    let first : stop.0 ≡ byte = (Decides-eqb stop.0 byte).0 is.0 in let second : stop.1 ≡ rest =
    same_some _ _ is.1 in ap (λ a. (a, stop.1)) first ∙ ap (λ r. (byte, r)) second

skipped_joined : (bytes word blank inner text rest : List ℕ) (b : ℕ) → bytes ≡ word ++ blank → blank ≡ b ∷ inner → inner ≡ text ++ 62 ∷ rest → bytes ≡ (word ++ (b ∷ []) ++ text ++ codes ">") ++ rest
skipped_joined bytes word blank inner text rest b e f g = rw (e, f, g) (simp append_assoc)

-- what stands before the byte that stopped
pub after_stop_takes : (byte : ℕ) (stops bytes rest : List ℕ) → after_stop byte stops bytes ≡ Some rest → Stops (is_one_of stops) bytes byte rest
after_stop_takes byte stops bytes rest e =
    let stop = bound (stop_at (is_one_of stops) None bytes) _ rest e in
    stops_takes (is_one_of stops) byte rest bytes None (stop.first ∙ ap Some (stop_is byte stop.value rest stop.others))

-- the bytes before a byte and the rest
taken_before : (text rest : List ℕ) (b : ℕ) → take (length (text ++ b ∷ rest) - suc (length rest)) (text ++ b ∷ rest) ≡ text
taken_before text rest b = take_at text (b ∷ rest) _ (omega (arith, length-append text (b ∷ rest)))

taken_is : (inside behind text rest : List ℕ) (b : ℕ) → behind ≡ rest → inside ≡ text ++ b ∷ rest → take (length inside - suc (length behind)) inside ≡ text
taken_is inside behind text rest b e f = rw (e, f) (taken_before text rest b)

pub skipped_read : (front : Bool) (bytes rest : List ℕ) → skipped_at bytes ≡ Some rest → StandsAt front bytes skipped rest
unfolding skipped_at behind_chars
skipped_read front bytes rest e =
    let blank = bound (skipped_word bytes) _ rest e in
    let inside = bound (after_white blank.value) _ rest blank.others in
    let behind = bound (after_stop 62 (codes ">%<") inside.value) _ rest inside.others in
    let chars = chosen (is_chars (take (length inside.value - suc (length behind.value)) inside.value)) (Some behind.value) rest behind.others in
    let is_rest : behind.value ≡ rest = same_some _ _ chars.1 in
    let word = word_takes bytes blank.value blank.first in
    let white = white_takes blank.value inside.value inside.first in
    let stops = after_stop_takes 62 (codes ">%<") inside.value rest (behind.first ∙ ap Some is_rest) in
    let text_is : take (length inside.value - suc (length behind.value)) inside.value ≡ stops.text = taken_is inside.value behind.value stops.text rest 62 is_rest stops.whole in
    record {
      text = word.word ++ (white.byte ∷ []) ++ stops.text ++ codes ">";
      spelled = record {
        word = word.word;
        before = white.byte ∷ [];
        inside = stops.text;
        is_word = word.is_word;
        space_before = record { some = λ none. cc; space = rw white.white refl };
        are_chars = chars_are stops.text (ap is_chars (sym text_is) ∙ chars.0);
        is_inside = stops.is_text;
        whole = refl;
      };
      may_stand = tt;
      whole = skipped_joined bytes word.word blank.value inside.value stops.text rest white.byte word.whole white.whole stops.whole;
    }

-- white space has no byte that ends or is a quote
abbrev is_outside : ℕ → Bool
is_outside b = not (is_quote b) && not (may_not_be_skipped b)

space_is_outside : (space : List ℕ) → IsOptionalSpace space → list_all is_outside space ≡ true
space_is_outside = space_passes is_outside record { space = refl; tab = refl; return = refl; feed = refl }

pub skipped_is_read : (text rest : List ℕ) → SpellsSkipped text → skipped_at (text ++ rest) ≡ Some rest
unfolding skipped_at after_white where_it_is behind_chars
skipped_is_read text rest s = by s.before s.space_before s.whole
  where
    by : (before : List ℕ) → IsSpace before → text ≡ s.word ++ before ++ s.inside ++ codes ">" → skipped_at (text ++ rest) ≡ Some rest
    by [] space whole = absurd (space.some refl)
    by (b ∷ bs) space whole =
        let here = and_parts (is_space b) (list_all is_space bs) space.space in
        let grouped : text ++ rest ≡ s.word ++ (b ∷ ((bs ++ s.inside) ++ 62 ∷ rest)) = ap (λ l. l ++ rest) whole ∙ simp append_assoc in
        let stops = stop_at-append may_not_be_skipped 62 rest (plain_before may_not_be_skipped bs (space_is_outside bs here.1) s.is_inside) refl refl in
        let chars : is_chars (take (length ((bs ++ s.inside) ++ 62 ∷ rest) - suc (length rest)) ((bs ++ s.inside) ++ 62 ∷ rest)) ≡ true =
        ap is_chars (taken_before (bs ++ s.inside) rest 62) ∙ are_chars (bs ++ s.inside) (chars_behind_space bs s.inside here.1 s.are_chars) in
        rw (grouped, word_is_taken s.word (b ∷ ((bs ++ s.inside) ++ 62 ∷ rest)) s.is_word, here.0, stops, chars) refl

-- an item that is read as the rest of a text
read_by : (front : Bool) (bytes : List ℕ) (i : DtdItem) (x : DtdItem × List ℕ)
    (o : Option (List ℕ)) → ((rest : List ℕ) → o ≡ Some rest → Begun front bytes (i, rest)) →
    read_as i o ≡ Some x → Begun front bytes x
unfolding read_as
read_by front bytes i x None reads f = cc
read_by front bytes i x (Some rest) reads f = subst (Begun front bytes) (same_some _ _ f) (reads rest refl)

front_read : (front : Bool) (bytes rest : List ℕ) → front_at front bytes ≡ Some rest → Begun front bytes (text_declaration, rest)
unfolding front_at
front_read front bytes rest e =
    let is = chosen front (text_declaration_at bytes) rest e in
    let takes = declaration_takes bytes rest is.1 in
    record { begun = record { text = takes.item; spelled = takes.is_item; may_stand = is.0; whole = takes.whole }; shallow = tt }

comment_read : (front : Bool) (bytes rest : List ℕ) → comment_at bytes ≡ Some rest → Begun front bytes (comment, rest)
comment_read front bytes rest e = let takes = comment_takes bytes rest e in record { begun = record { text = takes.item; spelled = takes.is_item; may_stand = tt; whole = takes.whole }; shallow = tt }

instruction_read : (front : Bool) (bytes rest : List ℕ) → instruction_at bytes ≡ Some rest → Begun front bytes (instruction, rest)
instruction_read front bytes rest e = let takes = instruction_takes bytes rest e in
    record {
      begun = record {
        text = takes.item;
        spelled = takes.is_item;
        may_stand = tt;
        whole = takes.whole;
      };
      shallow = tt;
    }

pub item_read : (front : Bool) (bytes : List ℕ) (x : DtdItem × List ℕ) → item_at front bytes ≡ Some x → Begun front bytes x
unfolding item_at
item_read front bytes x e =
    either_read (Begun front bytes) _ _ x e (read_by front bytes text_declaration x (front_at front bytes) (front_read front bytes)) (λ f.
    either_read (Begun front bytes) _ _ x f (read_by front bytes skipped x (skipped_at bytes) (λ rest g. record { begun = skipped_read front bytes rest g; shallow = tt })) (λ g.
    either_read (Begun front bytes) _ _ x g (read_by front bytes comment x (comment_at bytes) (comment_read front bytes)) (λ h.
    either_read (Begun front bytes) _ _ x h (read_by front bytes instruction x (instruction_at bytes) (instruction_read front bytes)) (element_read front bytes x))))

-- no text declaration stands where a text begins otherwise
no_front : (front : Bool) (bytes : List ℕ) → text_declaration_at bytes ≡ None → front_at front bytes ≡ None
unfolding front_at
no_front true bytes e = e
no_front false bytes e = refl

not_declared_by : (bytes : List ℕ) (o : Option (List ℕ)) → text_declaration_at bytes ≡ o → after_bytes (codes "<?") bytes ≡ None → o ≡ None
not_declared_by bytes None is none = refl
not_declared_by bytes (Some rest) is none = let opens = declaration_opens bytes rest is in
    let some = after_bytes-append (codes "<?") (codes "xml" ++ opens.0) in let at =
    ap (after_bytes (codes "<?")) opens.1 in cc

not_declared : (bytes : List ℕ) → after_bytes (codes "<?") bytes ≡ None → text_declaration_at bytes ≡ None
not_declared bytes none = not_declared_by bytes (text_declaration_at bytes) refl none

no_comment_by : (bytes : List ℕ) (o : Option (List ℕ)) → comment_at bytes ≡ o → after_bytes (codes "<!--") bytes ≡ None → o ≡ None
no_comment_by bytes None is none = refl
no_comment_by bytes (Some rest) is none =
    let takes = comment_takes bytes rest is in
    let opens = comment_opens takes.item takes.is_item in
    let whole : bytes ≡ codes "<!--" ++ (opens.0 ++ rest) = takes.whole ∙ ap (λ t. t ++ rest) opens.1 ∙ append_assoc (codes "<!--") opens.0 rest in
    let some = after_bytes-append (codes "<!--") (opens.0 ++ rest) in
    let at = ap (after_bytes (codes "<!--")) whole in
    cc

no_comment : (bytes : List ℕ) → after_bytes (codes "<!--") bytes ≡ None → comment_at bytes ≡ None
no_comment bytes none = no_comment_by bytes (comment_at bytes) refl none

no_instruction_by : (bytes : List ℕ) (o : Option (List ℕ)) → instruction_at bytes ≡ o → after_bytes (codes "<?") bytes ≡ None → o ≡ None
no_instruction_by bytes None is none = refl
no_instruction_by bytes (Some rest) is none =
    let takes = instruction_takes bytes rest is in
    let opens = instruction_opens takes.item takes.is_item in
    let whole : bytes ≡ codes "<?" ++ (opens.0 ++ rest) = takes.whole ∙ ap (λ t. t ++ rest) opens.1 ∙ append_assoc (codes "<?") opens.0 rest in
    let some = after_bytes-append (codes "<?") (opens.0 ++ rest) in
    let at = ap (after_bytes (codes "<?")) whole in
    cc

no_instruction : (bytes : List ℕ) → after_bytes (codes "<?") bytes ≡ None → instruction_at bytes ≡ None
no_instruction bytes none = no_instruction_by bytes (instruction_at bytes) refl none

pub spelled_is_read : (front : Bool) (i : DtdItem) (text rest : List ℕ) → Spells i text → MayStand front i → IsShallowItem i → item_at front (text ++ rest) ≡ Some (i, rest)
unfolding item_at skipped_at skipped_word read_as or_else front_at
spelled_is_read front text_declaration text rest s may shallow = rw (may, text_declaration_at-append text rest s) refl
spelled_is_read front skipped text rest s may shallow =
    let none : after_bytes (codes "<?") (text ++ rest) ≡ None = by s.word s.is_word s.whole in
    rw (no_front front (text ++ rest) (not_declared (text ++ rest) none), skipped_is_read text rest s) refl
  where
    by : (word : List ℕ) → IsSkippedWord word → text ≡ word ++ s.before ++ s.inside ++ codes ">" → after_bytes (codes "<?") (text ++ rest) ≡ None
    by word (inl is) whole = rw (whole, is) refl
    by word (inr (inl is)) whole = rw (whole, is) refl
    by word (inr (inr is)) whole = rw (whole, is) refl
spelled_is_read front comment text rest s may shallow =
    let opens = comment_opens text s in
    let none : after_bytes (codes "<?") (text ++ rest) ≡ None = rw opens.1 refl in
    let no_skipped : skipped_at (text ++ rest) ≡ None = rw opens.1 refl in
    rw (no_front front (text ++ rest) (not_declared (text ++ rest) none), no_skipped, comment_at-append text rest s) refl
spelled_is_read front instruction text rest s may shallow =
    let opens = instruction_opens text s in
    let none : after_bytes (codes "<!--") (text ++ rest) ≡ None = rw opens.1 refl in
    let no_skipped : skipped_at (text ++ rest) ≡ None = rw opens.1 refl in
    rw (no_front front (text ++ rest) (no_declaration text rest s), no_skipped, no_comment (text ++ rest) none, instruction_at-append text rest s) refl
spelled_is_read front (element n model) text rest s may shallow =
    let none : after_bytes (codes "<?") (text ++ rest) ≡ None = rw s.whole refl in
    let none_too : after_bytes (codes "<!--") (text ++ rest) ≡ None = rw s.whole refl in
    let no_skipped : skipped_at (text ++ rest) ≡ None = rw s.whole refl in
    rw (
      no_front front (text ++ rest) (not_declared (text ++ rest) none),
      no_skipped,
      no_comment (text ++ rest) none_too,
      no_instruction (text ++ rest) none,
    )
    (element_is_read n model text rest s shallow)

pub item_is_read : (front : Bool) (place : List ℕ) (i : DtdItem) (rest : List ℕ) → StandsAt front place i rest → IsShallowItem i → item_at front place ≡ Some (i, rest)
item_is_read front place i rest b shallow = ap (item_at front) b.whole ∙ spelled_is_read front i b.text rest b.spelled b.may_stand shallow
