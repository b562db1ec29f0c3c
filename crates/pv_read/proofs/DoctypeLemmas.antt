-- Document type declarations, read from the front.
use Rattle.std.proofs.Common.{◌≡◌, ◌≢◌, ℕ, ◌-◌, inl, inr, List, [], ◌∷◌, ◌++◌, true, false, length, take, Some, None, refl, sym, ap, subst, ◌∙◌, arith, append_assoc}
use Rattle.std.proofs.lemmas.Bool.Decides.{nat_tests}
use Rattle.std.specs.Prelude.{codes}
use Rattle.pv_chars.specs.Spaces.{is_space, IsOptionalSpace, TakesSpace, TakesBlank}
use Rattle.pv_chars.specs.Scan.{after_space, after_blank}
use Rattle.pv_chars.specs.Characters.{is_name_char, BeginsNo}
use Rattle.pv_chars.specs.Names.{TakesName, BeginsNoName}
use Rattle.pv_chars.specs.Fronts.{Begins, BeginsNone}
use Rattle.pv_chars.specs.Declarations.{IsOptional}
use Rattle.pv_chars.proofs.MarkupLemmas.{behind}
use Rattle.pv_chars.proofs.TextScans.{begins, after_space_takes, after_space-append, after_blank-append, after_blank_takes}
use Rattle.pv_chars.proofs.CharacterLemmas.{cut_at}
use Rattle.pv_chars.proofs.NameLemmas.{same_name}
use Rattle.pv_chars.proofs.SpaceLemmas.{ascii_ends, space_ends_name}
use Rattle.pv_chars.proofs.DeclarationLemmas.{Passes, same_passed}
use Rattle.pv_chars.proofs.UnitReading.{before}
use Rattle.pv_tree.specs.Prolog.{IsExternalId, IsDoctypeFront}
use Rattle.pv_read.specs.Items.{doctype, BeginsItem}
use Rattle.pv_read.specs.Kinds.{BeginsSubset}
use Rattle.pv_read.specs.PlainItems.{BeginsNoneOf}
use Rattle.pv_read.specs.declared.forms.sorts.Sort.TheVariants as sort
use Rattle.pv_read.specs.Takes.{ends_front, BeginsNoDoctypeFront, TakesDoctypeFront}
use Rattle.pv_read.proofs.AttributeLemmas.{Ends, name_black, black_is_no_blank}
use Rattle.pv_read.proofs.ExternalLemmas.{system_steps, public_steps, word_start, one_external}

-- ---- what may stand after a front
ends_by : (b : ℕ) (bs : List ℕ) → ends_front (b ∷ bs) ≡ true → Ends b
ends_by b bs e = record { low = grind (arith, nat_tests); black = grind (arith, nat_tests); no_name = grind (arith, nat_tests) }

end_black : (more : List ℕ) → ends_front more ≡ true → begins is_space more ≡ false
end_black [] e = cc
end_black (b ∷ bs) e = (ends_by b bs e).black

-- white space and the end of a front end a name
gap_ends_name : (gap more : List ℕ) → IsOptionalSpace gap → ends_front more ≡ true → BeginsNo is_name_char (gap ++ more)
gap_ends_name [] [] white e = cc
gap_ends_name [] (b ∷ bs) white e = let ends = ends_by b bs e in ascii_ends is_name_char b bs ends.low ends.no_name
gap_ends_name (x ∷ xs) more white e = space_ends_name (x ∷ xs) more record { some = λ none. cc; space = white }

external_ends_name : (external rest : List ℕ) → IsExternalId external → BeginsNo is_name_char (external ++ rest)
external_ends_name external rest (inl is) = subst (λ (l : List ℕ). BeginsNo is_name_char l) (sym (ap (λ l. l ++ rest) is.whole ∙ append_assoc is.space _ rest)) (space_ends_name is.space _ is.is_space)
external_ends_name external rest (inr is) = subst (λ (l : List ℕ). BeginsNo is_name_char l) (sym (ap (λ l. l ++ rest) is.whole ∙ append_assoc is.space _ rest)) (space_ends_name is.space _ is.is_space)

-- the word of an external identifier stands after its white space
external_starts : (bytes rest start : List ℕ) → Begins IsExternalId bytes rest → after_blank bytes ≡ Some start → ends_front start ≡ false
external_starts bytes rest start b e = by b.is_item
  where
    by : IsExternalId b.item → ends_front start ≡ false
    by (inl is) =
        let s = system_steps bytes rest record { item = b.item; is_item = is; whole = b.whole } in
        let word = word_start (codes "SYSTEM") (λ none. cc) refl bytes s.literal s.word in
        let same : start ≡ codes "SYSTEM" ++ (s.word.gap ++ s.literal) = cc in
        ap ends_front same
    by (inr is) =
        let s = public_steps bytes rest record { item = b.item; is_item = is; whole = b.whole } in
        let word = word_start (codes "PUBLIC") (λ none. cc) refl bytes s.public s.word in
        let same : start ≡ codes "PUBLIC" ++ (s.word.gap ++ s.public) = cc in
        ap ends_front same

external_blank : (bytes rest : List ℕ) → Begins IsExternalId bytes rest → after_blank bytes ≡ None → ⊥
external_blank bytes rest b e = by b.is_item
  where
    by : IsExternalId b.item → ⊥
    by (inl is) =
        let s = system_steps bytes rest record { item = b.item; is_item = is; whole = b.whole } in
        let word = word_start (codes "SYSTEM") (λ none. cc) refl bytes s.literal s.word in cc
    by (inr is) =
        let s = public_steps bytes rest record { item = b.item; is_item = is; whole = b.whole } in
        let word = word_start (codes "PUBLIC") (λ none. cc) refl bytes s.public s.word in cc

no_external_in_gap : (gap more : List ℕ) → IsOptionalSpace gap → ends_front more ≡ true → BeginsNone IsExternalId (gap ++ more)
no_external_in_gap [] more white e rest b = external_blank more rest b (black_is_no_blank more (end_black more e))
no_external_in_gap (x ∷ xs) more white e rest b =
    let other = external_starts ((x ∷ xs) ++ more) rest more b (after_blank-append (x ∷ xs) more record { some = λ none. cc; space = white } (end_black more e)) in cc

-- ---- a front by its steps
pub record FrontSteps (inside name more : List ℕ) : Type 0 where
  pub start : List ℕ
  pub after : List ℕ
  pub end : List ℕ
  pub blank : after_blank inside ≡ Some start
  pub named : TakesName start name after
  pub passed : Passes IsExternalId after end
  pub closes : after_space end ≡ more

pub front_steps : (inside name front more : List ℕ) → IsDoctypeFront name front → codes "<!DOCTYPE" ++ inside ≡ front ++ more → ends_front more ≡ true → FrontSteps inside name more
front_steps inside name front more i e ends = by i.is_external
  where
    after : List ℕ
    after = i.external ++ (i.gap ++ more)

    whole : inside ≡ i.space ++ (name ++ after)
    whole = behind (codes "<!DOCTYPE") inside (i.space ++ (name ++ after)) (e
        ∙ ap (λ l. l ++ more) i.whole ∙ append_assoc (codes "<!DOCTYPE") (i.space
        ++ (name ++ (i.external ++ i.gap))) more ∙ ap (λ l. codes "<!DOCTYPE" ++ l)
        (append_assoc i.space (name ++ (i.external ++ i.gap)) more ∙ ap (λ l. i.space ++ l)
        (append_assoc name (i.external ++ i.gap) more
        ∙ ap (λ l. name ++ l) (append_assoc i.external i.gap more))))

    blank : after_blank inside ≡ Some (name ++ after)
    blank = ap after_blank whole ∙ after_blank-append i.space (name ++ after) i.is_space (name_black name after i.is_name)

    closes : after_space (i.gap ++ more) ≡ more
    closes = after_space-append i.gap more i.is_gap (end_black more ends)

    by : IsOptional IsExternalId i.external → FrontSteps inside name more
    by (inl none) =
        let same : after ≡ i.gap ++ more = ap (λ l. l ++ (i.gap ++ more)) none in
        record {
          start = name ++ after;
          after = after;
          end = i.gap ++ more;
          blank = blank;
          named = record { is_name = i.is_name; whole = refl; ends = subst (λ (l : List ℕ). BeginsNo is_name_char l) (sym same) (gap_ends_name i.gap more i.is_gap ends) };
          passed = inr (subst (λ (l : List ℕ). BeginsNone IsExternalId l) (sym same) (no_external_in_gap i.gap more i.is_gap ends), sym same);
          closes = closes;
        }
    by (inr is) = record {
      start = name ++ after;
      after = after;
      end = i.gap ++ more;
      blank = blank;
      named = record { is_name = i.is_name; whole = refl; ends = external_ends_name i.external (i.gap ++ more) is };
      passed = inl record { item = i.external; is_item = is; whole = refl };
      closes = closes;
    }

pub front_by : (bytes inside name more : List ℕ) → bytes ≡ codes "<!DOCTYPE" ++ inside → FrontSteps inside name more → (front : List ℕ) × IsDoctypeFront name front × (bytes ≡ front ++ more)
front_by bytes inside name more e s = by s.passed
  where
    space : TakesBlank inside s.start
    space = after_blank_takes inside s.start s.blank

    gap : TakesSpace s.end (after_space s.end)
    gap = after_space_takes s.end

    end_is : s.end ≡ gap.space ++ more
    end_is = gap.whole ∙ ap (λ l. gap.space ++ l) s.closes

    made : (external : List ℕ) → IsOptional IsExternalId external → s.after ≡ external ++ s.end → (front : List ℕ) × IsDoctypeFront name front × (bytes ≡ front ++ more)
    made external is f = (
      codes "<!DOCTYPE" ++ (space.space ++ (name ++ (external ++ gap.space))),
      record { space = space.space; external = external; gap = gap.space; is_space = space.some; is_name = s.named.is_name; is_external = is; is_gap = gap.optional; whole = refl },
      e ∙ ap (λ l. codes "<!DOCTYPE" ++ l) (space.whole ∙ ap (λ l. space.space ++ l) (s.named.whole
          ∙ ap (λ l. name ++ l) (f ∙ ap (λ l. external ++ l) end_is
          ∙ sym (append_assoc external gap.space more)) ∙ sym (append_assoc name (external
          ++ gap.space) more)) ∙ sym (append_assoc space.space (name ++ (external ++ gap.space))
          more)) ∙ sym (append_assoc (codes "<!DOCTYPE") (space.space
          ++ (name ++ (external ++ gap.space))) more),
    )

    by : Passes IsExternalId s.after s.end → (front : List ℕ) × IsDoctypeFront name front × (bytes ≡ front ++ more)
    by (inl b) = made b.item (inr b.is_item) b.whole
    by (inr none) = made [] (inl refl) (sym none.1)

pub same_front : (inside name more other another : List ℕ) → FrontSteps inside name more → FrontSteps inside other another → (name ≡ other) × (more ≡ another)
same_front inside name more other another s t =
    let first = s.blank in
    let second = t.blank in
    let starts : s.start ≡ t.start = cc in
    let names = same_name t.start name s.after other t.after (subst (λ (l : List ℕ). TakesName l name s.after) starts s.named) t.named in
    let ends = same_passed IsExternalId one_external t.after s.end t.end (subst (λ (l : List ℕ). Passes IsExternalId l s.end) names.1 s.passed) t.passed in
    (names.0, sym s.closes ∙ ap after_space ends ∙ t.closes)

pub takes_front : (bytes inside name rest : List ℕ) → bytes ≡ codes "<!DOCTYPE" ++ inside → FrontSteps inside name rest → TakesDoctypeFront bytes name rest
takes_front bytes inside name rest e s =
    let front = front_by bytes inside name rest e s in
    record {
      front = front.0;
      is_front = front.1;
      whole = front.2;
      only = λ other another more is f ends. same_front inside name rest other more s
          (front_steps inside other another more is (sym e ∙ f) ends);
    }

-- ---- where none is

pub no_front_blank : (bytes inside : List ℕ) → bytes ≡ codes "<!DOCTYPE" ++ inside → after_blank inside ≡ None → BeginsNoDoctypeFront bytes
no_front_blank bytes inside f none name front more is e ends = let blank = (front_steps inside name front more is (sym f ∙ e) ends).blank in cc

pub no_front_name : (bytes inside start : List ℕ) → bytes ≡ codes "<!DOCTYPE" ++ inside → after_blank inside ≡ Some start → BeginsNoName start → BeginsNoDoctypeFront bytes
no_front_name bytes inside start f g none name front more is e ends =
    let s = front_steps inside name front more is (sym f ∙ e) ends in
    let blank = s.blank in
    let same : s.start ≡ start = cc in
    none name s.after s.named.is_name (sym same ∙ s.named.whole)

-- ---- declarations
doctype_whole : (name item bytes rest : List ℕ) → (b : BeginsItem (doctype name item) bytes rest) → bytes ≡ b.has_form.front ++ (codes ">" ++ rest)
doctype_whole name item bytes rest b = b.whole ∙ ap (λ l. l ++ rest) b.has_form.whole ∙ append_assoc b.has_form.front (codes ">") rest

pub no_doctype_by : (bytes : List ℕ) → ((name item rest : List ℕ) → BeginsItem (doctype name item) bytes rest → ⊥) → BeginsNoneOf sort.Doctype bytes
no_doctype_by bytes none (doctype name item) rest is b = none name item rest b
no_doctype_by bytes none i rest is b = cc

pub no_doctype_front : (bytes : List ℕ) → BeginsNoDoctypeFront bytes → BeginsNoneOf sort.Doctype bytes
no_doctype_front bytes none = no_doctype_by bytes (λ name item rest b. none name b.has_form.front (codes ">" ++ rest) b.has_form.is_front (doctype_whole name item bytes rest b) refl)

pub no_doctype_end : (bytes name end : List ℕ) → TakesDoctypeFront bytes name end → ((rest : List ℕ) → end ≢ codes ">" ++ rest) → BeginsNoneOf sort.Doctype bytes
no_doctype_end bytes name end taken none = no_doctype_by bytes (λ other item rest b. none rest
    (taken.only other b.has_form.front (codes ">" ++ rest) b.has_form.is_front
    (doctype_whole other item bytes rest b) refl).1)

pub doctype_by : (bytes name end rest item : List ℕ) → TakesDoctypeFront bytes name end →
    end ≡ codes ">" ++ rest → item ≡ take (length bytes - length rest) bytes →
    BeginsItem (doctype name item) bytes rest
doctype_by bytes name end rest item taken e f =
    let own = taken.front ++ codes ">" in
    let whole : bytes ≡ own ++ rest = taken.whole ∙ ap (λ l. taken.front ++ l) e ∙ sym (append_assoc taken.front (codes ">") rest) in
    let same : item ≡ own = f ∙ (cut_at bytes own rest whole).0 in
    rw same record { has_form = record { front = taken.front; is_front = taken.is_front; whole = refl }; whole = whole; ends_well = tt }

pub same_doctype : (name item rest other another more bytes : List ℕ) →
    BeginsItem (doctype name item) bytes rest → BeginsItem (doctype other another) bytes more →
    (name ≡ other) × (item ≡ another) × (rest ≡ more)
same_doctype name item rest other another more bytes b c =
    let i = b.has_form.is_front in
    let inside = (i.space ++ (name ++ (i.external ++ i.gap))) ++ (codes ">" ++ rest) in
    let e : bytes ≡ codes "<!DOCTYPE" ++ inside = doctype_whole name item bytes rest b
    ∙ ap (λ l. l ++ (codes ">" ++ rest)) i.whole ∙ append_assoc (codes "<!DOCTYPE") (i.space
    ++ (name ++ (i.external ++ i.gap))) (codes ">" ++ rest) in
    let s = front_steps inside name b.has_form.front (codes ">" ++ rest) i (sym e ∙ doctype_whole name item bytes rest b) refl in
    let t = front_steps inside other c.has_form.front (codes ">" ++ more) c.has_form.is_front (sym e ∙ doctype_whole other another bytes more c) refl in
    let same = same_front inside name (codes ">" ++ rest) other (codes ">" ++ more) s t in
    let rests = behind (codes ">") rest more same.1 in
    (same.0, before item another rest (sym b.whole ∙ c.whole ∙ ap (λ l. another ++ l) (sym rests)), rests)

-- ---- internal subsets
pub subset_by : (bytes name end more : List ℕ) → TakesDoctypeFront bytes name end → end ≡ codes "[" ++ more → BeginsSubset bytes
subset_by bytes name end more taken e = record { name = name; front = taken.front; more = more; is_front = taken.is_front; whole = taken.whole ∙ ap (λ l. taken.front ++ l) e }

pub no_subset_end : (bytes name end : List ℕ) → TakesDoctypeFront bytes name end → ((more : List ℕ) → end ≢ codes "[" ++ more) → BeginsSubset bytes → ⊥
no_subset_end bytes name end taken none s = none s.more (taken.only s.name s.front (codes "[" ++ s.more) s.is_front s.whole refl).1

pub no_subset_front : (bytes : List ℕ) → BeginsNoDoctypeFront bytes → BeginsSubset bytes → ⊥
no_subset_front bytes none s = none s.name s.front (codes "[" ++ s.more) s.is_front s.whole refl
