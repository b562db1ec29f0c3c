-- Values in quotes and text declarations: what is read is one, and what is one is read.
use Rattle.std.proofs.Common.{◌≡◌, ◌≢◌, ℕ, List, [], ◌∷◌, ◌++◌, codes, length, map, Bool, true, false, ◌||◌, ◌⊎◌, not, cond, unwrap_or, inl, inr}
use Rattle.std.proofs.Common.{Option, Some, None, option_map, refl, sym, ap, ◌∙◌, append_assoc, arith}
use Rattle.std.specs.Option.{MatchOption}
use Rattle.std.specs.Prelude.{nat_eq}
use Rattle.std.specs.List.{list_all}
use Rattle.std.specs.Char.{to_ascii_lowercase, is_ascii_digit}
use Rattle.std.specs.Str.{bytes_eq}
use Rattle.std.proofs.lemmas.Bool.{and_parts, or_right}
use Rattle.std.proofs.lemmas.Bool.Decides.{Decides-eqb}
use Rattle.std.proofs.lemmas.Slice.Eq.{bytes_eq-Decides}
use Rattle.pv_chars.specs.Spaces.{is_space}
use Rattle.pv_chars.specs.Characters.{is_name_char, BeginsNo}
use Rattle.pv_chars.specs.Names.{IsName, TakesName}
use Rattle.pv_chars.specs.Scan.{◌>>=◌, after_bytes, after_blank, after_space}
use Rattle.pv_chars.specs.Fronts.{Begins, BeginsNone}
use Rattle.pv_chars.specs.Markup.{IsInstruction}
use Rattle.pv_chars.specs.Declarations.{is_quote, IsQuoted, BeginsNoQuoted, IsPart, BeginsNoPart, IsPartOf, IsVersionNum, IsEncName, IsYesOrNo}
use Rattle.pv_chars.specs.Declarations.{IsVersionInfo, IsEncodingDecl, IsStandaloneDecl, IsOptional, IsTextDecl}
use Rattle.pv_chars.proofs.TextScans.{begins, after_bytes_takes, after_bytes-append}
use Rattle.pv_chars.proofs.QuoteLemmas.{quoted_by, no_quoted_in_nothing, no_quoted_by_other, no_quoted_by_end, same_quoted}
use Rattle.pv_chars.proofs.PartLemmas.{part_by, no_part_blank, no_part_word, no_part_eq, no_part_quoted, part_of_by, no_part_of, no_value_of}
use Rattle.pv_chars.proofs.DeclarationLemmas.{Passes, PassesParts, text_decl_by, no_text_decl_start, no_text_decl_parts, no_text_decl_end, one_text_decl}
use Rattle.pv_chars.proofs.SpaceLemmas.{space_ends_name}
use Rattle.pv_chars.proofs.NameLemmas.{same_name}
use Rattle.pv_chars.proofs.InstructionLemmas.{instruction_ends}
use Rattle.pv_chars.specs.CharReading.{is_nothing, up_to, quoted_at, declaration_part_at, valued_at, version_by, is_version_num, is_enc_name, is_yes_or_no, passed, ended_at, text_declaration_at}
use Rattle.pv_chars.proofs.NameBytes.{one_byte}
use Rattle.pv_chars.proofs.OneFront.{found, begun_is_read}
use Rattle.pv_chars.proofs.CharFacts.{Finds, finds, no_start}

quoted_by_test : (b : ℕ) (bs : List ℕ) (is : Bool) → is_quote b ≡ is →
    (o : Option (List ℕ × List ℕ)) → Finds (b ∷ []) bs o →
    MatchOption (cond is o None) (BeginsNoQuoted (b ∷ bs)) (λ r. Begins (IsQuoted r.0) (b ∷ bs) r.1)
quoted_by_test b bs false e o f = no_quoted_by_other (b ∷ bs) bs b refl e
quoted_by_test b bs true e None f = no_quoted_by_end (b ∷ bs) bs b refl f
quoted_by_test b bs true e (Some r) f = quoted_by (b ∷ bs) bs r.0 r.1 b refl e f

pub tells_quoted : (bytes : List ℕ) → MatchOption (quoted_at bytes) (BeginsNoQuoted bytes) (λ r. Begins (IsQuoted r.0) bytes r.1)
unfolding quoted_at
tells_quoted [] = no_quoted_in_nothing [] refl
tells_quoted (b ∷ bs) = quoted_by_test b bs (is_quote b) refl (up_to (b ∷ []) bs) (finds b [] bs)

pub quoted_is : (given text rest : List ℕ) → IsQuoted given text → quoted_at (text ++ rest) ≡ Some (given, rest)
quoted_is given text rest is = by (quoted_at (text ++ rest)) (tells_quoted (text ++ rest))
  where
    begun : Begins (IsQuoted given) (text ++ rest) rest
    begun = record { item = text; is_item = is; whole = refl }

    by : (o : Option (List ℕ × List ℕ)) → MatchOption o (BeginsNoQuoted (text ++ rest)) (λ p. Begins (IsQuoted p.0) (text ++ rest) p.1) → o ≡ Some (given, rest)
    by None m = absurd (m given rest begun)
    by (Some r) m = let same = same_quoted (text ++ rest) r.0 r.1 given rest m begun in ap Some (ap (λ l. (l, r.1)) same.0 ∙ ap (λ l. (given, l)) same.1)

-- what a function answers that reads it
pub quoted_is_read : {A : Type 0} (f : A → List ℕ × List ℕ) (bytes : List ℕ) (o : Option A) →
    MatchOption o (BeginsNoQuoted bytes) (λ r. Begins (IsQuoted (f r).0) bytes (f r).1) →
    option_map f o ≡ quoted_at bytes
quoted_is_read f bytes None m = by (quoted_at bytes) (tells_quoted bytes)
  where
    by : (o : Option (List ℕ × List ℕ)) → MatchOption o (BeginsNoQuoted bytes) (λ p. Begins (IsQuoted p.0) bytes p.1) → None ≡ o
    by None t = refl
    by (Some r) t = absurd (m r.0 r.1 t)
quoted_is_read f bytes (Some r) m = sym (ap quoted_at m.whole ∙ quoted_is (f r).0 m.item (f r).1 m.is_item)

module _ (word : List ℕ) (some : word ≢ []) (black : begins is_space word ≡ false) where
  module _ (bytes : List ℕ) where
    abbrev TellsPart : Option (List ℕ × List ℕ) → Type 0
    TellsPart o = MatchOption o (BeginsNoPart word bytes) (λ r. Begins (IsPart word r.0) bytes r.1)

    at_value : (start named valued : List ℕ) → after_blank bytes ≡ Some start → start ≡ word
        ++ named → after_space named ≡ codes "=" ++ valued → (o : Option (List ℕ × List ℕ)) →
        MatchOption o (BeginsNoQuoted (after_space valued)) (λ r. Begins (IsQuoted r.0)
        (after_space valued) r.1) → TellsPart o
    at_value start named valued e f g None m = no_part_quoted word bytes some black start named valued e f g m
    at_value start named valued e f g (Some r) m = part_by word bytes r.0 r.1 record { start = start; named = named; valued = valued; blank = e; is_word = f; is_eq = g; is_quoted = m }

    at_eq : (start named : List ℕ) → after_blank bytes ≡ Some start → start ≡ word ++ named →
        (o : Option (List ℕ)) → after_bytes (codes "=") (after_space named) ≡ o →
        TellsPart (o >>= λ valued. quoted_at (after_space valued))
    at_eq start named e f None is = no_part_eq word bytes some black start named e f (no_start (codes "=") (after_space named) is)
    at_eq start named e f (Some valued) is = at_value start named valued e f (after_bytes_takes
        (codes "=") (after_space named) valued is) (quoted_at (after_space valued))
        (tells_quoted (after_space valued))

    at_word : (start : List ℕ) → after_blank bytes ≡ Some start → (o : Option (List ℕ)) →
        after_bytes word start ≡ o →
        TellsPart (o >>= λ named. after_bytes (codes "=") (after_space named) >>=
        λ valued. quoted_at (after_space valued))
    at_word start e None is = no_part_word word bytes some black start e (no_start word start is)
    at_word start e (Some named) is = at_eq start named e (after_bytes_takes word start named is) (after_bytes (codes "=") (after_space named)) refl

    at_blank : (o : Option (List ℕ)) → after_blank bytes ≡ o →
        TellsPart (o >>= λ start. after_bytes word start >>= λ named. after_bytes (codes "=")
        (after_space named) >>= λ valued. quoted_at (after_space valued))
    at_blank None is = no_part_blank word bytes some black is
    at_blank (Some start) is = at_word start is (after_bytes word start) refl

    tells_part : TellsPart (declaration_part_at word bytes)
    unfolding declaration_part_at
    tells_part = at_blank (after_blank bytes) refl

  module _ (IsValue : List ℕ → Type 0) (test : List ℕ → Bool) (yes : (value : List ℕ) →
      test value ≡ true → IsValue value) (must : (value : List ℕ) → IsValue value →
      test value ≡ true) (bytes : List ℕ) where
    value_by : (value rest : List ℕ) → Begins (IsPart word value) bytes rest → (passes : Bool) →
        test value ≡ passes → MatchOption (cond passes (Some rest) None)
        (BeginsNone (IsPartOf word IsValue) bytes) (Begins (IsPartOf word IsValue) bytes)
    value_by value rest b true e = part_of_by word bytes value rest IsValue (yes value e) b
    value_by value rest b false e = no_value_of word bytes IsValue some black value rest b (λ is. let some = must value is in cc)

    valued_by : (o : Option (List ℕ × List ℕ)) → TellsPart bytes o →
        MatchOption (o >>= λ r. cond (test r.0) (Some r.1) None) (BeginsNone (IsPartOf word IsValue)
        bytes) (Begins (IsPartOf word IsValue) bytes)
    valued_by None m = no_part_of word bytes IsValue m
    valued_by (Some r) m = value_by r.0 r.1 m (test r.0) refl

    tells_valued : MatchOption (valued_at word test bytes) (BeginsNone (IsPartOf word IsValue) bytes) (Begins (IsPartOf word IsValue) bytes)
    unfolding valued_at
    tells_valued = valued_by (declaration_part_at word bytes) (tells_part bytes)

    passes_by : (o : Option (List ℕ)) → MatchOption o (BeginsNone (IsPartOf word IsValue) bytes) (Begins (IsPartOf word IsValue) bytes) → Passes (IsPartOf word IsValue) bytes (unwrap_or o bytes)
    passes_by None m = inr (m, refl)
    passes_by (Some r) m = inl m

    passes : Passes (IsPartOf word IsValue) bytes (passed word test bytes)
    passes = passes_by (valued_at word test bytes) tells_valued

-- the values
some_nothing : (bs : List ℕ) → bs ≢ [] → is_nothing bs ≡ false
some_nothing [] some = absurd (some refl)
some_nothing (b ∷ bs) some = refl

nothing_some : (bs : List ℕ) → not (is_nothing bs) ≡ true → bs ≢ []
nothing_some [] e f = cc
nothing_some (b ∷ bs) e f = cc

version_yes : (value : List ℕ) → is_version_num value ≡ true → IsVersionNum value
version_yes value e = by (after_bytes (codes "1.") value) refl e
  where
    by : (o : Option (List ℕ)) → after_bytes (codes "1.") value ≡ o → version_by o ≡ true → IsVersionNum value
    by None is f = cc
    by (Some digits) is f = let two = and_parts (not (is_nothing digits))
        (list_all is_ascii_digit digits) f in
        record {
          digits = digits;
          some = nothing_some digits two.0;
          are_digits = two.1;
          whole = after_bytes_takes (codes "1.") value digits is;
        }

version_must : (value : List ℕ) → IsVersionNum value → is_version_num value ≡ true
version_must value is =
    let read : after_bytes (codes "1.") value ≡ Some is.digits = ap (after_bytes (codes "1.")) is.whole ∙ after_bytes-append (codes "1.") is.digits in
    ap version_by read ∙ rw (some_nothing is.digits is.some, is.are_digits) refl

either_yes : (a b x y : List ℕ) → (bytes_eq a x || bytes_eq b y) ≡ true → (a ≡ x) ⊎ (b ≡ y)
either_yes a b x y e = by (bytes_eq a x) refl e
  where
    by : (first : Bool) → bytes_eq a x ≡ first → (first || bytes_eq b y) ≡ true → (a ≡ x) ⊎ (b ≡ y)
    by true is f = inl ((bytes_eq-Decides a x).0 is)
    by false is f = inr ((bytes_eq-Decides b y).0 f)

either_must : (a b x y : List ℕ) → (a ≡ x) ⊎ (b ≡ y) → (bytes_eq a x || bytes_eq b y) ≡ true
either_must a b x y (inl e) = rw ((bytes_eq-Decides a x).1 e) refl
either_must a b x y (inr e) = or_right (bytes_eq a x) (bytes_eq b y) ((bytes_eq-Decides b y).1 e)

-- text declarations
abbrev pub TellsDeclaration : List ℕ → Option (List ℕ) → Type 0
TellsDeclaration bytes o = MatchOption o (BeginsNone IsTextDecl bytes) (Begins IsTextDecl bytes)

module _ (bytes start : List ℕ) (unit_opens : bytes ≡ codes "<?xml" ++ start) where
  abbrev version : List ℕ
  version = passed (codes "version") is_version_num start

  abbrev encoding : List ℕ
  encoding = passed (codes "encoding") is_enc_name version

  abbrev end : List ℕ
  end = passed (codes "standalone") is_yes_or_no encoding

  parts : PassesParts start version encoding end
  parts = record {
    first = passes (codes "version") (λ none. cc) refl IsVersionNum is_version_num version_yes version_must start;
    second = passes (codes "encoding") (λ none. cc) refl IsEncName is_enc_name (λ v e. either_yes
        (map to_ascii_lowercase v) (map to_ascii_lowercase v) (codes "utf-8") (codes "us-ascii") e)
        (λ v is. either_must (map to_ascii_lowercase v) (map to_ascii_lowercase v) (codes "utf-8")
        (codes "us-ascii") is) version;
    third = passes (codes "standalone") (λ none. cc) refl IsYesOrNo is_yes_or_no (λ v e. either_yes v v (codes "yes") (codes "no") e) (λ v is. either_must v v (codes "yes") (codes "no") is) encoding;
  }

  ended : (none : Bool) → nat_eq (length end) (length start) ≡ none → (o : Option (List ℕ)) → after_bytes (codes "?>") (after_space end) ≡ o → TellsDeclaration bytes (cond none None o)
  ended true e o is = no_text_decl_parts bytes start version encoding end unit_opens parts ((Decides-eqb (length end) (length start)).0 e)
  ended false e None is = no_text_decl_end bytes start version encoding end unit_opens parts (no_start (codes "?>") (after_space end) is)
  ended false e (Some rest) is =
      text_decl_by bytes start version encoding end rest unit_opens
      record {
        first = parts.first;
        second = parts.second;
        third = parts.third;
        closes = after_bytes_takes (codes "?>") (after_space end) rest is;
      }
      (λ same. let yes = (Decides-eqb (length end) (length start)).1 same in cc)

  tells_ended : TellsDeclaration bytes (ended_at start end)
  tells_ended = ended (nat_eq (length end) (length start)) refl (after_bytes (codes "?>") (after_space end)) refl

pub tells_declaration : (bytes : List ℕ) → TellsDeclaration bytes (text_declaration_at bytes)
unfolding text_declaration_at
tells_declaration bytes = by (after_bytes (codes "<?xml") bytes) refl
  where
    by : (o : Option (List ℕ)) → after_bytes (codes "<?xml") bytes ≡ o →
        TellsDeclaration bytes (o >>= λ start. ended_at start (passed (codes "standalone")
        is_yes_or_no (passed (codes "encoding") is_enc_name (passed (codes "version") is_version_num start))))
    by None is = no_text_decl_start bytes (no_start (codes "<?xml") bytes is)
    by (Some start) is = tells_ended bytes start (after_bytes_takes (codes "<?xml") bytes start is)

pub declaration_takes : (bytes rest : List ℕ) → text_declaration_at bytes ≡ Some rest → Begins IsTextDecl bytes rest
declaration_takes = found IsTextDecl text_declaration_at tells_declaration one_text_decl

pub text_declaration_at-append : (text rest : List ℕ) → IsTextDecl text → text_declaration_at (text ++ rest) ≡ Some rest
text_declaration_at-append text rest is = begun_is_read IsTextDecl text_declaration_at tells_declaration one_text_decl (text ++ rest) rest record { item = text; is_item = is; whole = refl }

pub text_decl_opens : (text : List ℕ) → IsTextDecl text → (inside : List ℕ) × (text ≡ codes "<?xml" ++ inside)
text_decl_opens text is = (is.version ++ (is.encoding ++ (is.standalone ++ (is.space ++ codes "?>"))), is.whole)

pub declaration_opens : (bytes rest : List ℕ) → text_declaration_at bytes ≡ Some rest → (inside : List ℕ) × (bytes ≡ codes "<?xml" ++ inside)
declaration_opens bytes rest e = let b = declaration_takes bytes rest e in let o =
    text_decl_opens b.item b.is_item in
    (o.0 ++ rest, b.whole ∙ ap (λ l. l ++ rest) o.1 ∙ append_assoc (codes "<?xml") o.0 rest)

-- An instruction is no text declaration.
pub xml_is_name : IsName (codes "xml")
xml_is_name = record {
  first = 120;
  others = 109 ∷ 108 ∷ [];
  is_start = refl;
  are_name_chars = record { codes = 109 ∷ 108 ∷ []; pass = refl; spelled = rw (one_byte 109 (omega arith), one_byte 108 (omega arith)) refl };
  whole = rw (one_byte 120 (omega arith)) refl;
}

pub part_ends : (word bytes rest : List ℕ) (IsValue : List ℕ → Type 0) → IsPartOf word IsValue bytes → BeginsNo is_name_char (bytes ++ rest)
part_ends word bytes rest IsValue is =
    let p = is.2 in
    rw (p.whole, append_assoc p.space (word ++ (p.equals ++ p.quoted)) rest) (space_ends_name p.space ((word ++ (p.equals ++ p.quoted)) ++ rest) p.is_space)

ends_by : (version encoding standalone rest : List ℕ) → version ++ (encoding ++ standalone) ≢ [] →
    IsOptional IsVersionInfo version → IsOptional IsEncodingDecl encoding →
    IsOptional IsStandaloneDecl standalone → BeginsNo is_name_char (version
    ++ (encoding ++ (standalone ++ rest)))
ends_by version encoding standalone rest some (inr v) e s = part_ends (codes "version") version (encoding ++ (standalone ++ rest)) IsVersionNum v
ends_by version encoding standalone rest some (inl no_v) (inr e) s = rw no_v (part_ends (codes "encoding") encoding (standalone ++ rest) IsEncName e)
ends_by version encoding standalone rest some (inl no_v) (inl no_e) (inr s) = rw (no_v, no_e) (part_ends (codes "standalone") standalone rest IsYesOrNo s)
ends_by version encoding standalone rest some (inl no_v) (inl no_e) (inl no_s) = absurd (some (rw (no_v, no_e, no_s) refl))

no_both : (bytes rest more : List ℕ) → Begins IsInstruction bytes rest → Begins IsTextDecl bytes more → ⊥
no_both bytes rest more a b =
    let i = b.is_item in
    let tail = i.version ++ (i.encoding ++ (i.standalone ++ (i.space ++ (codes "?>" ++ more)))) in
    let whole : bytes ≡ codes "<?" ++ (codes "xml" ++ tail) = b.whole ∙ ap (λ l. l ++ more) i.whole ∙ simp append_assoc in
    let ends = instruction_ends bytes (codes "xml" ++ tail) rest whole a in
    let named : TakesName (codes "xml" ++ tail) (codes "xml") tail =
    record {
      is_name = xml_is_name;
      whole = refl;
      ends = ends_by i.version i.encoding
          i.standalone (i.space ++ (codes "?>" ++ more)) i.some i.is_version i.is_encoding i.is_standalone;
    } in
    let same = same_name (codes "xml" ++ tail) a.is_item.target _ (codes "xml") tail ends.named named in
    ends.not_xml (ap (map to_ascii_lowercase) same.0)

pub no_declaration : (text rest : List ℕ) → IsInstruction text → text_declaration_at (text ++ rest) ≡ None
no_declaration text rest is = by (text_declaration_at (text ++ rest)) refl
  where
    by : (o : Option (List ℕ)) → text_declaration_at (text ++ rest) ≡ o → o ≡ None
    by None e = refl
    by (Some more) e = absurd (no_both (text ++ rest) rest more record { item = text; is_item = is; whole = refl } (declaration_takes (text ++ rest) more e))
