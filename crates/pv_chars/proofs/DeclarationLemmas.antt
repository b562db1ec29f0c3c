-- XML declarations and text declarations, read from the front.
use Rattle.std.proofs.Common.{◌≡◌, ◌≢◌, ℕ, ◌<◌, ◌≤◌, ◌⊎◌, inl, inr, ⊎_elim, List, [], ◌∷◌, ◌++◌, Bool, true, false, cond, length, Bor, Option, Some}
use Rattle.std.proofs.Common.{None, refl, sym, ap, subst, ◌∙◌, arith, append_assoc, length-append}
use Rattle.std.specs.Prelude.{codes, unwrap_or}
use Rattle.std.specs.Option.{MatchOption}
use Rattle.pv_chars.specs.Spaces.{is_space, IsOptionalSpace}
use Rattle.pv_chars.specs.Scan.{after_space, after_blank}
use Rattle.pv_chars.specs.Fronts.{Begins, BeginsNone}
use Rattle.pv_chars.specs.Declarations.{IsPartOf, IsVersionNum, IsEncName, IsYesOrNo, IsVersionInfo, IsEncodingDecl, IsStandaloneDecl, IsOptional, IsTextDecl, IsXmlDecl}
use Rattle.pv_chars.proofs.TextScans.{after_space_takes, after_space-append}
use Rattle.pv_chars.proofs.MarkupLemmas.{behind}
use Rattle.pv_chars.proofs.PartLemmas.{same_part_of, part_of_starts}

-- Such an item stands at the front and is passed over, or there is none.
abbrev pub Passes : (List ℕ → Type 0) → List ℕ → List ℕ → Type 0
Passes IsItem bytes rest = Begins IsItem bytes rest ⊎ (BeginsNone IsItem bytes × (rest ≡ bytes))

pub passes_by : (IsItem : List ℕ → Type 0) (bytes x : Bor (List ℕ)) (r : Option (Bor (List ℕ))) →
    MatchOption r (BeginsNone IsItem bytes.now) (λ r. Begins IsItem bytes.now r.now) →
    x ≡ unwrap_or r bytes → Passes IsItem bytes.now x.now
passes_by IsItem bytes x None none e = inr (none, ap (λ (b : Bor (List ℕ)). b.now) e)
passes_by IsItem bytes x (Some r) found e = inl (rw e found)

-- at most one such item stands at the front
abbrev pub IsOnly : (List ℕ → Type 0) → Type 0
IsOnly IsItem = (bytes rest more : List ℕ) → Begins IsItem bytes rest → Begins IsItem bytes more → rest ≡ more

pub same_passed : (IsItem : List ℕ → Type 0) → IsOnly IsItem → (bytes rest more : List ℕ) → Passes IsItem bytes rest → Passes IsItem bytes more → rest ≡ more
same_passed IsItem only bytes rest more (inl a) (inl b) = only bytes rest more a b
same_passed IsItem only bytes rest more (inl a) (inr b) = absurd (b.0 rest a)
same_passed IsItem only bytes rest more (inr a) (inl b) = absurd (a.0 more b)
same_passed IsItem only bytes rest more (inr a) (inr b) = a.1 ∙ sym b.1

pub one_version : IsOnly IsVersionInfo
one_version bytes rest more a b = same_part_of (codes "version") bytes IsVersionNum (λ none. cc) refl rest more a b

pub one_encoding : IsOnly IsEncodingDecl
one_encoding bytes rest more a b = same_part_of (codes "encoding") bytes IsEncName (λ none. cc) refl rest more a b

pub one_standalone : IsOnly IsStandaloneDecl
one_standalone bytes rest more a b = same_part_of (codes "standalone") bytes IsYesOrNo (λ none. cc) refl rest more a b

-- ---- the first byte after white space tells which part comes next
first_of : List ℕ → Option ℕ
first_of [] = None
first_of (b ∷ bs) = Some b

next : List ℕ → Option ℕ
next bytes = first_of (after_space bytes)

blank_is_space : (bytes rest : List ℕ) → after_blank bytes ≡ Some rest → after_space bytes ≡ rest
unfolding after_blank
blank_is_space [] rest e = cc
blank_is_space (b ∷ bs) rest e = by (is_space b) e
  where
    by : (white : Bool) → cond white (Some (after_space bs)) None ≡ Some rest → cond white (after_space bs) (b ∷ bs) ≡ rest
    by true f = cc
    by false f = cc

part_next : (x : ℕ) (word bytes rest : List ℕ) (IsValue : List ℕ → Type 0) → is_space x ≡ false → Begins (IsPartOf (x ∷ word) IsValue) bytes rest → next bytes ≡ Some x
unfolding next first_of
part_next x word bytes rest IsValue black b =
    let starts = part_of_starts (x ∷ word) bytes IsValue (λ none. cc) black rest b in
    ap first_of (blank_is_space bytes ((x ∷ word) ++ starts.0) starts.1)

end_next : (space rest : List ℕ) → IsOptionalSpace space → next (space ++ (codes "?>" ++ rest)) ≡ Some 63
unfolding next first_of
end_next space rest s = ap first_of (after_space-append space (codes "?>" ++ rest) s refl)

not_next : (x y : ℕ) (word bytes : List ℕ) (IsValue : List ℕ → Type 0) → is_space x ≡ false → next bytes ≡ Some y → (x ≡ y → ⊥) → BeginsNone (IsPartOf (x ∷ word) IsValue) bytes
not_next x y word bytes IsValue black e other rest b = let is = part_next x word bytes rest IsValue black b in other cc

-- an item that may be left out, and none of its kind where it is
optional_passes : (IsItem : List ℕ → Type 0) (bytes item rest : List ℕ) → bytes ≡ item ++ rest → IsOptional IsItem item → BeginsNone IsItem rest → Passes IsItem bytes rest
optional_passes IsItem bytes item rest e (inl none) absent = let same : rest ≡ bytes = sym (e ∙ ap (λ l. l ++ rest) none) in inr (subst (BeginsNone IsItem) same absent, same)
optional_passes IsItem bytes item rest e (inr is) absent = inl record { item = item; is_item = is; whole = e }

-- what comes next after one
optional_next : (x : ℕ) (word bytes item rest : List ℕ) (IsValue : List ℕ → Type 0) →
    is_space x ≡ false → bytes ≡ item ++ rest → IsOptional (IsPartOf (x ∷ word) IsValue) item →
    (next bytes ≡ Some x) ⊎ (next bytes ≡ next rest)
optional_next x word bytes item rest IsValue black e (inl none) = inr (ap next (e ∙ ap (λ l. l ++ rest) none))
optional_next x word bytes item rest IsValue black e (inr is) = inl (part_next x word bytes rest IsValue black record { item = item; is_item = is; whole = e })

-- ---- the encoding and the standalone part, and the end
pub record EndsDecl (start version encoding end rest : List ℕ) : Type 0 where
  pub first : Passes IsVersionInfo start version
  pub second : Passes IsEncodingDecl version encoding
  pub third : Passes IsStandaloneDecl encoding end
  pub closes : after_space end ≡ codes "?>" ++ rest

tail_passes : (encoding standalone space rest : List ℕ) → IsOptional IsEncodingDecl encoding →
    IsOptional IsStandaloneDecl standalone → IsOptionalSpace space →
    (Passes IsEncodingDecl (encoding ++ (standalone ++ (space ++ (codes "?>" ++ rest)))) (standalone
    ++ (space ++ (codes "?>" ++ rest)))) × (Passes IsStandaloneDecl (standalone
    ++ (space ++ (codes "?>" ++ rest))) (space ++ (codes "?>" ++ rest)))
    × ((next (encoding ++ (standalone ++ (space ++ (codes "?>" ++ rest)))) ≡ Some 118) → ⊥)
tail_passes encoding standalone space rest is_encoding is_standalone is_space =
    let c = space ++ (codes "?>" ++ rest) in
    let b = standalone ++ c in
    let a = encoding ++ b in
    let at_c : next c ≡ Some 63 = end_next space rest is_space in
    let at_b : (next b ≡ Some 115) ⊎ (next b ≡ next c) = optional_next 115 (codes "tandalone") b standalone c IsYesOrNo refl refl is_standalone in
    let at_a : (next a ≡ Some 101) ⊎ (next a ≡ next b) = optional_next 101 (codes "ncoding") a encoding b IsEncName refl refl is_encoding in
    let no_standalone : BeginsNone IsStandaloneDecl c = not_next 115 63 (codes "tandalone") c IsYesOrNo refl at_c (λ same. omega arith) in
    let no_encoding : BeginsNone IsEncodingDecl b = ⊎_elim
    (λ is. not_next 101 115 (codes "ncoding") b IsEncName refl is (λ same. omega arith))
    (λ is. not_next 101 63 (codes "ncoding") b IsEncName refl (is ∙ at_c) (λ same. omega arith)) at_b in (
      optional_passes IsEncodingDecl a encoding b refl is_encoding no_encoding,
      optional_passes IsStandaloneDecl b standalone c refl is_standalone no_standalone,
      λ v. ⊎_elim (λ e. let same : Some 101 ≡ Some 118 = sym e ∙ v in some_apart 101 118 (λ f. omega arith) same)
          (λ e. ⊎_elim (λ s. some_apart 115 118 (λ f. omega arith) (sym s ∙ sym e ∙ v)) (λ q. some_apart 63 118 (λ f. omega arith) (sym at_c ∙ sym q ∙ sym e ∙ v)) at_b) at_a,
    )
  where
    some_apart : (x y : ℕ) → (x ≡ y → ⊥) → Some x ≡ Some y → ⊥
    some_apart x y other e = other cc

-- ---- text declarations
shorter : (IsItem : List ℕ → Type 0) (bytes rest : List ℕ) → Passes IsItem bytes rest → length rest ≤ length bytes
shorter IsItem bytes rest (inl b) = omega (arith, ap length b.whole, length-append b.item rest)
shorter IsItem bytes rest (inr none) = omega (arith, ap length none.1)

pub same_decl : (start version encoding end rest other_version other_encoding other_end more : List
    ℕ) → EndsDecl start version encoding end rest →
    EndsDecl start other_version other_encoding other_end more → (end ≡ other_end) × (rest ≡ more)
same_decl start version encoding end rest v e d more a b =
    let first : version ≡ v = same_passed IsVersionInfo one_version start version v a.first b.first in
    let P : List ℕ → Type 0 = λ l. Passes IsEncodingDecl l e in
    let second : encoding ≡ e = same_passed IsEncodingDecl one_encoding version encoding e a.second (subst P (sym first) b.second) in
    let Q : List ℕ → Type 0 = λ l. Passes IsStandaloneDecl l d in
    let third : end ≡ d = same_passed IsStandaloneDecl one_standalone encoding end d a.third (subst Q (sym second) b.third) in
    (third, behind (codes "?>") rest more (sym a.closes ∙ ap after_space third ∙ b.closes))

-- the item that is passed over, which may be nothing
pub record PassedOver (IsItem : List ℕ → Type 0) (bytes rest : List ℕ) : Type 0 where
  pub item : List ℕ
  pub is_item : IsOptional IsItem item
  pub whole : bytes ≡ item ++ rest

passed_over : (IsItem : List ℕ → Type 0) (bytes rest : List ℕ) → Passes IsItem bytes rest → PassedOver IsItem bytes rest
passed_over IsItem bytes rest (inl b) = record { item = b.item; is_item = inr b.is_item; whole = b.whole }
passed_over IsItem bytes rest (inr none) = record { item = []; is_item = inl refl; whole = sym none.1 }

no_length : (l : List ℕ) → length l ≡ 0 → l ≡ []
no_length [] e = refl
no_length (b ∷ bs) e = absurd (omega arith)

decl_whole : (front bytes start version encoding standalone space rest : List ℕ) → bytes ≡ front
    ++ start → start ≡ version ++ (encoding ++ (standalone ++ (space ++ (codes "?>" ++ rest)))) →
    bytes ≡ (front ++ (version ++ (encoding ++ (standalone ++ (space ++ codes "?>"))))) ++ rest
decl_whole front bytes start version encoding standalone space rest e s = e ∙ ap (λ l. front ++ l) s ∙ simp append_assoc

-- a text declaration at the front
pub text_decl_ends : (bytes start rest : List ℕ) → bytes ≡ codes "<?xml" ++ start →
    Begins IsTextDecl bytes rest → (version : List ℕ) × (encoding : List ℕ) × (end : List ℕ)
    × EndsDecl start version encoding end rest × (length end < length start)
text_decl_ends bytes start rest e d =
    let i = d.is_item in
    let c = i.space ++ (codes "?>" ++ rest) in
    let b = i.standalone ++ c in
    let a = i.encoding ++ b in
    let flat : (codes "<?xml" ++ (i.version ++ (i.encoding ++ (i.standalone ++ (i.space ++ codes "?>"))))) ++ rest ≡ codes "<?xml" ++ (i.version ++ a) = simp append_assoc in
    let whole : start ≡ i.version ++ a = behind (codes "<?xml") start (i.version ++ a) (sym e ∙ d.whole ∙ ap (λ l. l ++ rest) i.whole ∙ flat) in
    let tail = tail_passes i.encoding i.standalone i.space rest i.is_encoding i.is_standalone i.is_space in
    let first : Passes IsVersionInfo start a = optional_passes IsVersionInfo start i.version a whole i.is_version (λ more v. tail.2 (part_next 118 (codes "ersion") a more IsVersionNum refl v)) in
    let some : length (i.version ++ (i.encoding ++ i.standalone)) ≡ 0 → ⊥ = λ none. i.some (no_length (i.version ++ (i.encoding ++ i.standalone)) none) in (
      a,
      b,
      c,
      record { first = first; second = tail.0; third = tail.1; closes = after_space-append i.space (codes "?>" ++ rest) i.is_space refl },
      omega (
        arith,
        some,
        ap length whole,
        length-append i.version a,
        length-append i.encoding b,
        length-append i.standalone c,
        length-append i.version (i.encoding ++ i.standalone),
        length-append i.encoding i.standalone,
      ),
    )

pub text_decl_by : (bytes start version encoding end rest : List ℕ) → bytes ≡ codes "<?xml"
    ++ start → EndsDecl start version encoding end rest → (length end ≡ length start → ⊥) →
    Begins IsTextDecl bytes rest
text_decl_by bytes start version encoding end rest e d some =
    let v = passed_over IsVersionInfo start version d.first in
    let n = passed_over IsEncodingDecl version encoding d.second in
    let s = passed_over IsStandaloneDecl encoding end d.third in
    let space = after_space_takes end in
    let closes : end ≡ space.space ++ (codes "?>" ++ rest) = space.whole ∙ ap (λ l. space.space ++ l) d.closes in
    let whole : start ≡ v.item ++ (n.item ++ (s.item ++ (space.space ++ (codes "?>" ++ rest)))) =
    v.whole ∙ ap (λ l. v.item ++ l) (n.whole ∙ ap (λ l. n.item ++ l) (s.whole ∙ ap (λ l. s.item
    ++ l) closes)) in
    record {
      item = codes "<?xml" ++ (v.item ++ (n.item ++ (s.item ++ (space.space ++ codes "?>"))));
      is_item = record {
        version = v.item;
        encoding = n.item;
        standalone = s.item;
        space = space.space;
        is_version = v.is_item;
        is_encoding = n.is_item;
        is_standalone = s.is_item;
        some = λ none. some (omega (
          arith,
          ap length none,
          ap length v.whole,
          ap length n.whole,
          ap length s.whole,
          length-append v.item version,
          length-append n.item encoding,
          length-append s.item end,
          length-append v.item (n.item ++ s.item),
          length-append n.item s.item,
        ));
        is_space = space.optional;
        whole = refl;
      };
      whole = decl_whole (codes "<?xml") bytes start v.item n.item s.item space.space rest e whole;
    }

-- where none begins
pub no_text_decl_start : (bytes : List ℕ) → ((rest : List ℕ) → bytes ≢ codes "<?xml" ++ rest) → BeginsNone IsTextDecl bytes
no_text_decl_start bytes none rest d = let i = d.is_item in
    none _ (d.whole ∙ ap (λ l. l ++ rest) i.whole ∙ append_assoc (codes "<?xml") (i.version
    ++ (i.encoding ++ (i.standalone ++ (i.space ++ codes "?>")))) rest)

-- what three parts leave
pub record PassesParts (start version encoding end : List ℕ) : Type 0 where
  pub first : Passes IsVersionInfo start version
  pub second : Passes IsEncodingDecl version encoding
  pub third : Passes IsStandaloneDecl encoding end

parts_of : (start version encoding end rest : List ℕ) → EndsDecl start version encoding end rest → PassesParts start version encoding end
parts_of start version encoding end rest d = record { first = d.first; second = d.second; third = d.third }

same_parts : (start version encoding end other_version other_encoding other_end : List ℕ) →
    PassesParts start version encoding end → PassesParts start other_version other_encoding
    other_end → end ≡ other_end
same_parts start version encoding end v e d a b =
    let first : version ≡ v = same_passed IsVersionInfo one_version start version v a.first b.first in
    let P : List ℕ → Type 0 = λ l. Passes IsEncodingDecl l e in
    let second : encoding ≡ e = same_passed IsEncodingDecl one_encoding version encoding e a.second (subst P (sym first) b.second) in
    let Q : List ℕ → Type 0 = λ l. Passes IsStandaloneDecl l d in
    same_passed IsStandaloneDecl one_standalone encoding end d a.third (subst Q (sym second) b.third)

pub no_text_decl_parts : (bytes start version encoding end : List ℕ) → bytes ≡ codes "<?xml" ++ start → PassesParts start version encoding end → length end ≡ length start → BeginsNone IsTextDecl bytes
no_text_decl_parts bytes start version encoding end e parts none rest d =
    let found = text_decl_ends bytes start rest e d in
    let same = same_parts start version encoding end found.0 found.1 found.2 parts (parts_of start found.0 found.1 found.2 rest found.3) in
    omega (arith, found.4, ap length same)

pub no_text_decl_end : (bytes start version encoding end : List ℕ) → bytes ≡ codes "<?xml"
    ++ start → PassesParts start version encoding end → ((rest : List ℕ) →
    after_space end ≢ codes "?>" ++ rest) → BeginsNone IsTextDecl bytes
no_text_decl_end bytes start version encoding end e parts none rest d =
    let found = text_decl_ends bytes start rest e d in
    let same = same_parts start version encoding end found.0 found.1 found.2 parts (parts_of start found.0 found.1 found.2 rest found.3) in
    none rest (ap after_space same ∙ found.3.closes)

pub one_text_decl : (bytes rest more : List ℕ) → Begins IsTextDecl bytes rest → Begins IsTextDecl bytes more → rest ≡ more
one_text_decl bytes rest more a b =
    let i = a.is_item in
    let start = (i.version ++ (i.encoding ++ (i.standalone ++ (i.space ++ codes "?>")))) ++ rest in
    let e : bytes ≡ codes "<?xml" ++ start = a.whole ∙ ap (λ l. l ++ rest) i.whole ∙ append_assoc (codes "<?xml") (i.version ++ (i.encoding ++ (i.standalone ++ (i.space ++ codes "?>")))) rest in
    let first = text_decl_ends bytes start rest e a in
    let second = text_decl_ends bytes start more e b in
    (same_decl start first.0 first.1 first.2 rest second.0 second.1 second.2 more first.3 second.3).1

-- ---- XML declarations
pub xml_decl_ends : (bytes start rest : List ℕ) → bytes ≡ codes "<?xml" ++ start →
    Begins IsXmlDecl bytes rest → (version : List ℕ) × (encoding : List ℕ) × (end : List ℕ)
    × EndsDecl start version encoding end rest × Begins IsVersionInfo start version
xml_decl_ends bytes start rest e d =
    let i = d.is_item in
    let c = i.space ++ (codes "?>" ++ rest) in
    let b = i.standalone ++ c in
    let a = i.encoding ++ b in
    let flat : (codes "<?xml" ++ (i.version ++ (i.encoding ++ (i.standalone ++ (i.space ++ codes "?>"))))) ++ rest ≡ codes "<?xml" ++ (i.version ++ a) = simp append_assoc in
    let whole : start ≡ i.version ++ a = behind (codes "<?xml") start (i.version ++ a) (sym e ∙ d.whole ∙ ap (λ l. l ++ rest) i.whole ∙ flat) in
    let tail = tail_passes i.encoding i.standalone i.space rest i.is_encoding i.is_standalone i.is_space in
    let first : Begins IsVersionInfo start a = record { item = i.version; is_item = i.is_version; whole = whole } in
    (a, b, c, record { first = inl first; second = tail.0; third = tail.1; closes = after_space-append i.space (codes "?>" ++ rest) i.is_space refl }, first)

pub xml_decl_by : (bytes start version encoding end rest : List ℕ) → bytes ≡ codes "<?xml"
    ++ start → Begins IsVersionInfo start version → Passes IsEncodingDecl version encoding →
    Passes IsStandaloneDecl encoding end → after_space end ≡ codes "?>" ++ rest → Begins IsXmlDecl bytes rest
xml_decl_by bytes start version encoding end rest e v second third ends =
    let n = passed_over IsEncodingDecl version encoding second in
    let s = passed_over IsStandaloneDecl encoding end third in
    let space = after_space_takes end in
    let closes : end ≡ space.space ++ (codes "?>" ++ rest) = space.whole ∙ ap (λ l. space.space ++ l) ends in
    let whole : start ≡ v.item ++ (n.item ++ (s.item ++ (space.space ++ (codes "?>" ++ rest)))) =
    v.whole ∙ ap (λ l. v.item ++ l) (n.whole ∙ ap (λ l. n.item ++ l) (s.whole ∙ ap (λ l. s.item
    ++ l) closes)) in
    record {
      item = codes "<?xml" ++ (v.item ++ (n.item ++ (s.item ++ (space.space ++ codes "?>"))));
      is_item = record {
        version = v.item;
        encoding = n.item;
        standalone = s.item;
        space = space.space;
        is_version = v.is_item;
        is_encoding = n.is_item;
        is_standalone = s.is_item;
        is_space = space.optional;
        whole = refl;
      };
      whole = decl_whole (codes "<?xml") bytes start v.item n.item s.item space.space rest e whole;
    }

pub no_xml_decl_version : (bytes start : List ℕ) → bytes ≡ codes "<?xml" ++ start → BeginsNone IsVersionInfo start → BeginsNone IsXmlDecl bytes
no_xml_decl_version bytes start e none rest d = let found = xml_decl_ends bytes start rest e d in none found.0 found.4

pub no_xml_decl_end : (bytes start version encoding end : List ℕ) → bytes ≡ codes "<?xml" ++ start →
    PassesParts start version encoding end → ((rest : List ℕ) → after_space end ≢ codes "?>"
    ++ rest) → BeginsNone IsXmlDecl bytes
no_xml_decl_end bytes start version encoding end e parts none rest d =
    let found = xml_decl_ends bytes start rest e d in
    let same = same_parts start version encoding end found.0 found.1 found.2 parts (parts_of start found.0 found.1 found.2 rest found.3) in
    none rest (ap after_space same ∙ found.3.closes)

pub one_xml_decl : (bytes rest more : List ℕ) → Begins IsXmlDecl bytes rest → Begins IsXmlDecl bytes more → rest ≡ more
one_xml_decl bytes rest more a b =
    let i = a.is_item in
    let start = (i.version ++ (i.encoding ++ (i.standalone ++ (i.space ++ codes "?>")))) ++ rest in
    let e : bytes ≡ codes "<?xml" ++ start = a.whole ∙ ap (λ l. l ++ rest) i.whole ∙ append_assoc (codes "<?xml") (i.version ++ (i.encoding ++ (i.standalone ++ (i.space ++ codes "?>")))) rest in
    let first = xml_decl_ends bytes start rest e a in
    let second = xml_decl_ends bytes start more e b in
    (same_decl start first.0 first.1 first.2 rest second.0 second.1 second.2 more first.3 second.3).1
