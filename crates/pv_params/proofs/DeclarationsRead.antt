-- Declarations: what is read is spelled so, and what is spelled so is read.
use Rattle.std.proofs.Common.{◌≡◌, inl, inr, ℕ, List, [], ◌∷◌, ◌++◌, length, codes, Bool, true, false, ◌&&◌, ◌==◌, ◌||◌, cond, Option, Some, None, refl, sym, ap, ◌∙◌, append_assoc, arith, subst}
use Rattle.std.specs.List.{list_all}
use Rattle.std.specs.Option.{MatchOption}
use Rattle.std.proofs.lemmas.Bool.{and_parts, and_from}
use Rattle.std.proofs.lemmas.Bool.Decides.{Decides-eqb}
use Rattle.pv_chars.specs.Spaces.{is_space, IsSpace, IsOptionalSpace}
use Rattle.pv_chars.specs.Names.{IsName}
use Rattle.pv_chars.specs.Fronts.{Begins}
use Rattle.pv_chars.specs.Declarations.{IsQuoted, BeginsNoQuoted}
use Rattle.pv_chars.specs.Scan.{after_space, after_blank, after_bytes}
use Rattle.pv_chars.proofs.TextScans.{begins, after_bytes_takes, after_space_takes, after_space-append, after_blank_takes, after_blank-append, chosen}
use Rattle.pv_chars.proofs.Beginnings.{HasNoSpace, no_space, begins_in_space}
use Rattle.pv_params.specs.Items.{TextItem, puts, parameter, declaration}
use Rattle.pv_params.specs.Spelling.{SpellsInside, SpellsValue, AreItems, nothing, item, IsInside, IsEntityValue, IsPEDecl, IsWord, IsDeclaration, SpellsBetween}
use Rattle.pv_chars.specs.Declarations.{is_one_of}
use Rattle.pv_chars.proofs.ReaderSteps.{bound, same_some}
use Rattle.pv_chars.specs.CharReading.{name_at, quoted_at, is_chars}
use Rattle.pv_chars.proofs.CharFacts.{chars_are, are_chars}
use Rattle.pv_chars.proofs.NameBytes.{is_name_byte, names_have_no_space, name_at_takes, name_at-append, name_begins}
use Rattle.pv_chars.proofs.TextDeclarations.{tells_quoted}
use Rattle.pv_params.specs.ItemReading.{or_else, behind_items, front_of, copy_up_to, byte_at, named_at, reference_at, literal_at, inside_at}
use Rattle.pv_params.specs.ItemReading.{are_items, is_inside, is_value, parameter_named, parameter_given, parameter_at, with_word, keyword_at}
use Rattle.pv_params.specs.ItemReading.{held_by, held_at, declaration_at}
use Rattle.pv_params.proofs.Runs.{Front, front_is, run_takes, run_is, items_are, are_items_read}
use Rattle.pv_params.proofs.ItemsRead.{either, inside_reads}
use Rattle.pv_chars.proofs.TextDeclarations.{quoted_is}
use Rattle.pv_params.proofs.ValuesRead.{value_reads}

-- ---- whole texts
pub inside_is : (text : List ℕ) → is_inside text ≡ true → IsInside text
unfolding is_inside
inside_is text e = let two = and_parts (is_chars text) (are_items inside_at text) e in record { are_chars = chars_are text two.0; are_items = items_are SpellsInside inside_at inside_reads text two.1 }

pub is_inside_read : (text : List ℕ) → IsInside text → is_inside text ≡ true
unfolding is_inside
is_inside_read text is = and_from (is_chars text) (are_items inside_at text) (are_chars text is.are_chars) (are_items_read SpellsInside inside_at inside_reads text is.are_items)

pub value_is : (text : List ℕ) → is_value text ≡ true → IsEntityValue text
unfolding is_value
value_is text e = let two = and_parts (is_chars text) (are_items _ text) e in record { are_chars = chars_are text two.0; are_items = items_are SpellsValue _ value_reads text two.1 }

pub is_value_read : (text : List ℕ) → IsEntityValue text → is_value text ≡ true
unfolding is_value
is_value_read text is = and_from (is_chars text) (are_items _ text) (are_chars text is.are_chars) (are_items_read SpellsValue _ value_reads text is.are_items)

-- ---- the words of other declarations
record TakesWord (bytes : List ℕ) (x : List ℕ × List ℕ) : Type 0 where
  is_word : IsWord x.0
  whole : bytes ≡ x.0 ++ x.1

worded : (word bytes : List ℕ) (x : List ℕ × List ℕ) → IsWord word → with_word word (after_bytes word bytes) ≡ Some x → TakesWord bytes x
worded word bytes x is e = by (after_bytes word bytes) refl e
  where
    by : (o : Option (List ℕ)) → after_bytes word bytes ≡ o → with_word word o ≡ Some x → TakesWord bytes x
    by None f g = cc
    by (Some rest) f g = subst (TakesWord bytes) (same_some _ _ g) record { is_word = is; whole = after_bytes_takes word bytes rest f }

word_takes : (bytes : List ℕ) (x : List ℕ × List ℕ) → keyword_at bytes ≡ Some x → TakesWord bytes x
unfolding keyword_at
word_takes bytes x e =
    either (TakesWord bytes) _ _ x e (worded (codes "<!ELEMENT") bytes x (inl refl))
    (λ f. either (TakesWord bytes) _ _ x f (worded (codes "<!ATTLIST") bytes x (inr (inl refl)))
    (λ g. either (TakesWord bytes) _ _ x g (worded (codes "<!ENTITY") bytes x (inr (inr (inl refl))))
    (worded (codes "<!NOTATION") bytes x (inr (inr (inr refl))))))

word_is : (word rest : List ℕ) → IsWord word → keyword_at (word ++ rest) ≡ Some (word, rest)
unfolding keyword_at or_else
word_is word rest (inl is) = rw is refl
word_is word rest (inr (inl is)) = rw is refl
word_is word rest (inr (inr (inl is))) = rw is refl
word_is word rest (inr (inr (inr is))) = rw is refl

-- ---- what they hold
record Holds (bytes : List ℕ) (x : List ℕ × List ℕ) : Type 0 where
  white : begins is_space x.0 ≡ true
  is_inside : IsInside x.0
  whole : bytes ≡ (x.0 ++ codes ">") ++ x.1

held_takes : (bytes : List ℕ) (x : List ℕ × List ℕ) → held_at bytes ≡ Some x → Holds bytes x
unfolding held_at held_by
held_takes bytes x e =
    let end = behind_items inside_at (length bytes) bytes in
    let takes = run_takes SpellsInside inside_at inside_reads (length bytes) bytes (omega arith) in
    let held = front_of bytes end in
    let held_is : held ≡ takes.front = ap (λ l. front_of l end) takes.whole ∙ front_is takes.front end in
    let c = chosen (begins is_space held && is_chars held) _ x e in
    let two = and_parts (begins is_space held) (is_chars held) c.0 in
    let b = bound (after_bytes (codes ">") end) _ x c.1 in
    let text : bytes ≡ (held ++ codes ">") ++ b.value = takes.whole
    ∙ ap (λ l. l ++ end) (sym held_is) ∙ ap (λ l. held ++ l) (after_bytes_takes (codes ">") end
    b.value b.first) ∙ sym (append_assoc held (codes ">") b.value) in
    subst (Holds bytes) (same_some _ _ b.others)
    record {
      white = two.0;
      is_inside = record {
        are_chars = chars_are held two.1;
        are_items = subst (AreItems SpellsInside) (sym held_is) takes.are_items;
      };
      whole = text;
    }

no_inside_end : (rest : List ℕ) → inside_at (62 ∷ rest) ≡ None
unfolding inside_at byte_at or_else copy_up_to literal_at quoted_at reference_at named_at
no_inside_end rest = refl

held_is_read : (held rest : List ℕ) → begins is_space held ≡ true → IsInside held → held_at ((held ++ codes ">") ++ rest) ≡ Some (held, rest)
unfolding held_at held_by
held_is_read held rest white is =
    let cut = append_assoc held (codes ">") rest in
    let end = run_is SpellsInside inside_at inside_reads held (codes ">" ++ rest) is.are_items (no_inside_end rest) in
    rw (cut, end, front_is held (codes ">" ++ rest), white, are_chars held is.are_chars) refl

pub declaration_read : (bytes : List ℕ) (x : TextItem × List ℕ) → declaration_at bytes ≡ Some x → Front SpellsBetween bytes x.0 x.1
unfolding declaration_at
declaration_read bytes x e =
    let word = bound (keyword_at bytes) _ x e in
    let held = bound (held_at word.value.1) _ x word.others in
    let w = word_takes bytes word.value word.first in
    let h = held_takes word.value.1 held.value held.first in
    let text = word.value.0 ++ (held.value.0 ++ codes ">") in
    let P : TextItem × List ℕ → Type 0 = λ y. Front SpellsBetween bytes y.0 y.1 in
    subst P (same_some _ _ held.others) record {
      text = text;
      spelled = record { is_word = w.is_word; begins_white = h.white; is_inside = h.is_inside; whole = refl };
      whole = w.whole ∙ ap (λ l. word.value.0 ++ l) h.whole ∙ sym (append_assoc word.value.0 (held.value.0 ++ codes ">") held.value.1);
    }

pub declaration_is : (word held text rest : List ℕ) → IsDeclaration word held text → declaration_at (text ++ rest) ≡ Some (declaration word held, rest)
unfolding declaration_at
declaration_is word held text rest s =
    let cut : text ++ rest ≡ word ++ ((held ++ codes ">") ++ rest) = ap (λ l. l ++ rest) s.whole ∙ append_assoc word (held ++ codes ">") rest in
    rw (cut, word_is word ((held ++ codes ">") ++ rest) s.is_word, held_is_read held rest s.begins_white s.is_inside) refl

-- ---- parameter declarations
pub record Named (bytes name rest : List ℕ) : Type 0 where
  pub before : List ℕ
  pub after : List ℕ
  pub behind : List ℕ
  pub space_before : IsSpace before
  pub space_after : IsSpace after
  pub is_name : IsName name
  pub space_behind : IsSpace behind
  pub whole : bytes ≡ codes "<!ENTITY" ++ (before ++ (codes "%" ++ (after ++ (name ++ (behind ++ rest)))))

pub named_read : (bytes : List ℕ) (x : List ℕ × List ℕ) → parameter_named bytes ≡ Some x → Named bytes x.0 x.1
unfolding parameter_named
named_read bytes x e =
    let blank = bound (after_bytes (codes "<!ENTITY") bytes) _ x e in
    let percent = bound (after_blank blank.value) _ x blank.others in
    let after = bound (after_bytes (codes "%") percent.value) _ x percent.others in
    let start = bound (after_blank after.value) _ x after.others in
    let word = bound (name_at start.value) _ x start.others in
    let end = bound (after_blank word.value.1) _ x word.others in
    let a = after_blank_takes blank.value percent.value percent.first in
    let b = after_blank_takes after.value start.value start.first in
    let n = name_at_takes start.value word.value.0 word.value.1 word.first in
    let c = after_blank_takes word.value.1 end.value end.first in
    let P : List ℕ × List ℕ → Type 0 = λ y. Named bytes y.0 y.1 in
    let behind_name : word.value.1 ≡ c.space ++ end.value = c.whole in
    let at_start : start.value ≡ word.value.0 ++ (c.space ++ end.value) = n.whole ∙ ap (λ l. word.value.0 ++ l) behind_name in
    let at_after : after.value ≡ b.space ++ (word.value.0 ++ (c.space ++ end.value)) = b.whole ∙ ap (λ l. b.space ++ l) at_start in
    let at_percent : percent.value ≡ codes "%"
    ++ (b.space ++ (word.value.0 ++ (c.space ++ end.value))) =
    after_bytes_takes (codes "%") percent.value after.value after.first ∙ ap (λ l. codes "%"
    ++ l) at_after in
    let at_blank : blank.value ≡ a.space ++ (codes "%" ++ (b.space ++ (word.value.0 ++ (c.space ++ end.value)))) = a.whole ∙ ap (λ l. a.space ++ l) at_percent in
    subst P (same_some _ _ end.others) record {
      before = a.space;
      after = b.space;
      behind = c.space;
      space_before = a.some;
      space_after = b.some;
      is_name = n.is_name;
      space_behind = c.some;
      whole = after_bytes_takes (codes "<!ENTITY") bytes blank.value blank.first ∙ ap (λ l. codes "<!ENTITY" ++ l) at_blank;
    }

pub named_is : (before after name behind rest : List ℕ) → IsSpace before → IsSpace after → IsName name → IsSpace behind → begins is_space rest ≡ false →
    parameter_named (codes "<!ENTITY" ++ (before ++ (codes "%" ++ (after ++ (name ++ (behind ++ rest)))))) ≡ Some (name, rest)
unfolding parameter_named
named_is before after name behind rest a b n c ends =
    let first = after_blank-append before (codes "%" ++ (after ++ (name ++ (behind ++ rest)))) a refl in
    let second = after_blank-append after (name ++ (behind ++ rest)) b (name_begins name (behind ++ rest) n) in
    let named = name_at-append name (behind ++ rest) n (begins_in_space is_name_byte names_have_no_space behind rest c) in
    let third = after_blank-append behind rest c ends in
    rw (first, second, named, third) refl

record Given (bytes given rest : List ℕ) : Type 0 where
  quoted : List ℕ
  end : List ℕ
  is_quoted : IsQuoted given quoted
  is_value : IsEntityValue given
  space_at_end : IsOptionalSpace end
  whole : bytes ≡ quoted ++ (end ++ (codes ">" ++ rest))

given_read : (bytes : List ℕ) (x : List ℕ × List ℕ) → parameter_given bytes ≡ Some x → Given bytes x.0 x.1
unfolding parameter_given
given_read bytes x e =
    let given = bound (quoted_at bytes) _ x e in
    let rest = bound (after_bytes (codes ">") (after_space given.value.1)) _ x given.others in
    let c = chosen (is_value given.value.0) _ x rest.others in
    let space = after_space_takes given.value.1 in
    let q = begun given.value given.first (tells_quoted bytes) in
    let P : List ℕ × List ℕ → Type 0 = λ y. Given bytes y.0 y.1 in
    subst P (same_some _ _ c.1) record {
      quoted = q.item;
      end = space.space;
      is_quoted = q.is_item;
      is_value = value_is given.value.0 c.0;
      space_at_end = space.optional;
      whole = q.whole ∙ ap (λ l. q.item ++ l) (space.whole ∙ ap (λ l. space.space ++ l) (after_bytes_takes (codes ">") (after_space given.value.1) rest.value rest.first));
    }
  where
    begun : (r : List ℕ × List ℕ) → quoted_at bytes ≡ Some r → MatchOption (quoted_at bytes) (BeginsNoQuoted bytes) (λ p. Begins (IsQuoted p.0) bytes p.1) → Begins (IsQuoted r.0) bytes r.1
    begun r is m = rw is at m

given_is : (given quoted end rest : List ℕ) → IsQuoted given quoted → IsEntityValue given → IsOptionalSpace end → parameter_given (quoted ++ (end ++ (codes ">" ++ rest))) ≡ Some (given, rest)
unfolding parameter_given
given_is given quoted end rest q is space = rw (quoted_is given quoted (end ++ (codes ">" ++ rest)) q, after_space-append end (codes ">" ++ rest) space refl, is_value_read given is) refl

pub regrouped : (before after name behind quoted end rest : List ℕ) →
    (codes "<!ENTITY" ++ (before
    ++ (codes "%" ++ (after ++ (name ++ (behind ++ (quoted ++ (end ++ codes ">"))))))))
    ++ rest ≡ codes "<!ENTITY"
    ++ (before ++ (codes "%" ++ (after ++ (name ++ (behind ++ (quoted ++ (end ++ (codes ">" ++ rest))))))))
regrouped before after name behind quoted end rest = simp append_assoc refl

pub parameter_read : (bytes : List ℕ) (x : TextItem × List ℕ) → parameter_at bytes ≡ Some x → Front SpellsBetween bytes x.0 x.1
unfolding parameter_at
parameter_read bytes x e =
    let named = bound (parameter_named bytes) _ x e in
    let given = bound (parameter_given named.value.1) _ x named.others in
    let n = named_read bytes named.value named.first in
    let g = given_read named.value.1 given.value given.first in
    let P : TextItem × List ℕ → Type 0 = λ y. Front SpellsBetween bytes y.0 y.1 in
    subst P (same_some _ _ given.others) record {
      text = codes "<!ENTITY" ++ (n.before ++ (codes "%" ++ (n.after ++ (named.value.0 ++ (n.behind ++ (g.quoted ++ (g.end ++ codes ">")))))));
      spelled = record {
        before = n.before;
        after = n.after;
        behind = n.behind;
        quoted = g.quoted;
        end = g.end;
        space_before = n.space_before;
        space_after = n.space_after;
        is_name =
            n.is_name;
        space_behind = n.space_behind;
        is_quoted = g.is_quoted;
        is_value = g.is_value;
        space_at_end = g.space_at_end;
        whole = refl;
      };
      whole = n.whole ∙ ap (λ l. codes "<!ENTITY"
          ++ (n.before ++ (codes "%" ++ (n.after ++ (named.value.0 ++ (n.behind ++ l)))))) g.whole
          ∙ sym (regrouped n.before n.after named.value.0 n.behind g.quoted g.end given.value.1);
    }

quote_not_white : (quote : ℕ) (double single : Bool) → (quote == 34) ≡ double → (quote == 39) ≡ single → (double || single) ≡ true → is_space quote ≡ false
quote_not_white quote true single d s e = let is = (Decides-eqb quote 34).0 d in rw is refl
quote_not_white quote false true d s e = let is = (Decides-eqb quote 39).0 s in rw is refl
quote_not_white quote false false d s e = cc

quoted_begins : (given quoted rest : List ℕ) → IsQuoted given quoted → begins is_space (quoted ++ rest) ≡ false
quoted_begins given quoted rest q = rw q.whole (quote_not_white q.quote (q.quote == 34) (q.quote == 39) refl refl q.is_quote)

pub parameter_is : (name given text rest : List ℕ) → IsPEDecl name given text → parameter_at (text ++ rest) ≡ Some (parameter name given, rest)
unfolding parameter_at
parameter_is name given text rest s =
    let cut = ap (λ l. l ++ rest) s.whole ∙ regrouped s.before s.after name s.behind s.quoted s.end rest in
    let named = named_is s.before s.after name s.behind (s.quoted ++ (s.end ++ (codes ">" ++ rest)))
    s.space_before s.space_after s.is_name s.space_behind (quoted_begins given s.quoted _ s.is_quoted) in
    rw (cut, named, given_is given s.quoted s.end rest s.is_quoted s.is_value s.space_at_end) refl

-- ---- no other declaration goes on with '%' and white space
no_white_inside : HasNoSpace (is_one_of (codes "<>%'\""))
no_white_inside = record { space = refl; tab = refl; return = refl; feed = refl }

white_inside : (space : List ℕ) → IsOptionalSpace space → AreItems SpellsInside space
white_inside [] s = nothing refl
white_inside (b ∷ bs) s =
    let here = and_parts (is_space b) (list_all is_space bs) s in
    item (puts (b ∷ [])) (b ∷ []) bs (refl, inl record { byte = b; is_other = no_space (is_one_of (codes "<>%'\"")) no_white_inside b here.0; whole = refl }) (white_inside bs here.1) refl

no_reference_white : (b : ℕ) (bs : List ℕ) (white : Bool) → is_space b ≡ white → white ≡ true → reference_at (37 ∷ b ∷ bs) ≡ None
unfolding reference_at named_at
no_reference_white b bs white is so = by (name_at (b ∷ bs)) refl
  where
    by : (o : Option (List ℕ × List ℕ)) → name_at (b ∷ bs) ≡ o → reference_at (37 ∷ b ∷ bs) ≡ None
    by None e = rw e refl
    by (Some n) e =
        let t = name_at_takes (b ∷ bs) n.0 n.1 e in
        let first : is_space b ≡ false = ap (begins is_space) t.whole ∙ name_begins n.0 n.1 t.is_name in
        let both : true ≡ false = sym (is ∙ so) ∙ first in cc

no_inside_percent : (after rest : List ℕ) → IsSpace after → inside_at (37 ∷ (after ++ rest)) ≡ None
unfolding inside_at byte_at copy_up_to literal_at quoted_at or_else
no_inside_percent [] rest s = absurd (s.some refl)
no_inside_percent (b ∷ bs) rest s = let here = and_parts (is_space b) (list_all is_space bs) s.space in no_reference_white b (bs ++ rest) (is_space b) refl here.0

neither : {A : Type 0} (test : Bool) → cond {A = Option A} test None None ≡ None
neither true = refl
neither false = refl

no_held : (before after rest : List ℕ) → IsSpace before → IsSpace after → held_at (before ++ (codes "%" ++ (after ++ rest))) ≡ None
unfolding held_at held_by
no_held before after rest a b =
    let end = run_is SpellsInside inside_at inside_reads before (codes "%" ++ (after ++ rest)) (white_inside before a.space) (no_inside_percent after rest b) in
    rw end (neither (begins is_space (front_of (before ++ (codes "%" ++ (after ++ rest))) (codes "%"
    ++ (after ++ rest))) && is_chars (front_of (before ++ (codes "%" ++ (after ++ rest)))
    (codes "%" ++ (after ++ rest)))))

pub no_declaration : (before after rest : List ℕ) → IsSpace before → IsSpace after → declaration_at (codes "<!ENTITY" ++ (before ++ (codes "%" ++ (after ++ rest)))) ≡ None
unfolding declaration_at
no_declaration before after rest a b = rw (word_is (codes "<!ENTITY") (before ++ (codes "%" ++ (after ++ rest))) (inr (inr (inl refl))), no_held before after rest a b) refl
