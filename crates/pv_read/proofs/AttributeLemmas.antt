-- Attributes, read from the front.
use Rattle.std.proofs.Common.{◌≡◌, ◌≢◌, ℕ, ◌-◌, ◌<◌, List, [], ◌∷◌, ◌++◌, Bool, true, false, length, take, drop, Some, None, refl, sym, ap, subst, ◌∙◌, arith, append_assoc, length-append}
use Rattle.std.proofs.lemmas.Bool.{and_parts}
use Rattle.std.proofs.lemmas.Bool.Decides.{nat_tests}
use Rattle.std.proofs.lemmas.List.{append-nil}
use Rattle.std.specs.Prelude.{codes}
use Rattle.std.specs.List.{list_all, AllByRecursion}
use Rattle.pv_chars.specs.Spaces.{is_space, IsOptionalSpace, TakesSpace}
use Rattle.pv_chars.specs.Scan.{after_space, after_blank}
use Rattle.pv_chars.specs.Characters.{is_name_start, is_name_char, BeginsNo}
use Rattle.pv_chars.specs.Names.{IsName, TakesName, BeginsNoName}
use Rattle.pv_chars.specs.Fronts.{Begins, BeginsNone}
use Rattle.pv_chars.specs.References.{IsReference}
use Rattle.pv_chars.specs.Texts.{joined}
use Rattle.pv_chars.specs.Declarations.{IsPart, BeginsNoPart}
use Rattle.pv_chars.proofs.TextScans.{begins, after_space-append, after_space-ended, after_blank-append}
use Rattle.pv_chars.proofs.CharacterLemmas.{nothing_begins, cut_at}
use Rattle.pv_chars.proofs.SpaceLemmas.{space_is_ascii, space_in_no_name, ascii_ends}
use Rattle.pv_chars.proofs.NameLemmas.{same_name}
use Rattle.pv_chars.proofs.Ranges.{name_start_is_name_char}
use Rattle.pv_chars.proofs.PartLemmas.{part_steps, same_part}
use Rattle.pv_chars.proofs.UnitReading.{before}
use Rattle.pv_tree.specs.Attributes.{AreMadeOf, IsTextPiece, IsAttribute, IsAttributes}
use Rattle.pv_read.specs.Takes.{TakesPieces, TakesAttributes, ends_tag}
use Rattle.pv_chars.proofs.MeansLemmas.{joined_push}
use Rattle.pv_read.proofs.Values.{value_is_quoted, quoted_is_value}

-- ---- a name begins with no white space
pub name_some : (name : List ℕ) → IsName name → name ≢ []
name_some name is none = nothing_begins is_name_start is.first is.others is.is_start (sym none ∙ is.whole)

name_black_by : (name rest : List ℕ) (white : Bool) → IsName name → begins is_space (name ++ rest) ≡ white → white ≡ false
name_black_by name rest false is e = refl
name_black_by [] rest true is e = absurd (name_some [] is refl)
name_black_by (b ∷ bs) rest true is e =
    absurd (ascii_ends is_name_char b bs (space_is_ascii b e) (space_in_no_name b e) is.first is.others (name_start_is_name_char is.first is.is_start) is.whole)

pub name_black : (name rest : List ℕ) → IsName name → begins is_space (name ++ rest) ≡ false
name_black name rest is = name_black_by name rest (begins is_space (name ++ rest)) is refl

pub name_alone_black : (name : List ℕ) → IsName name → begins is_space name ≡ false
name_alone_black name is = let Q : List ℕ → Type 0 = λ l. begins is_space l ≡ false in subst Q (append-nil name) (name_black name [] is)

-- what stands in front of `=` ends a name
equals_ends_name_by : (b : ℕ) (bs valued : List ℕ) (white : Bool) → is_space b ≡ white → after_space (b ∷ bs) ≡ codes "=" ++ valued → BeginsNo is_name_char (b ∷ bs)
equals_ends_name_by b bs valued true e f = ascii_ends is_name_char b bs (space_is_ascii b e) (space_in_no_name b e)
equals_ends_name_by b bs valued false e f =
    let g : b ∷ bs ≡ 61 ∷ valued = sym (after_space-ended (b ∷ bs) e) ∙ f in
    let first : b ≡ 61 = cc in
    subst (λ (x : ℕ). BeginsNo is_name_char (x ∷ bs)) (sym first) (ascii_ends is_name_char 61 bs (omega arith) refl)

equals_ends_name : (named valued : List ℕ) → after_space named ≡ codes "=" ++ valued → BeginsNo is_name_char named
equals_ends_name [] valued f = cc
equals_ends_name (b ∷ bs) valued f = equals_ends_name_by b bs valued (is_space b) refl f

-- no white space stands there
pub black_is_no_blank : (l : List ℕ) → begins is_space l ≡ false → after_blank l ≡ None
unfolding after_blank
black_is_no_blank [] black = refl
black_is_no_blank (x ∷ xs) black = rw black refl

-- ---- what may end a tag
-- It is no white space, and stands in no name.
pub record Ends (b : ℕ) : Type 0 where
  pub low : b < 128
  pub black : is_space b ≡ false
  pub no_name : is_name_char b ≡ false

ends_by : (b : ℕ) (bs : List ℕ) → ends_tag (b ∷ bs) ≡ true → Ends b
ends_by b bs e = record { low = grind (arith, nat_tests); black = grind (arith, nat_tests); no_name = grind (arith, nat_tests) }

pub end_is_black : (more : List ℕ) → ends_tag more ≡ true → begins is_space more ≡ false
end_is_black [] e = refl
end_is_black (b ∷ bs) e = (ends_by b bs e).black

end_is_no_name : (more : List ℕ) → ends_tag more ≡ true → BeginsNoName more
end_is_no_name [] e name rest is whole = nothing_begins is_name_start is.first (is.others ++ rest) is.is_start (whole ∙ ap (λ l. l ++ rest) is.whole ∙ append_assoc _ is.others rest)
end_is_no_name (b ∷ bs) e name rest is whole =
    let ends = ends_by b bs e in
    ascii_ends is_name_char b bs ends.low ends.no_name is.first (is.others ++ rest)
    (name_start_is_name_char is.first is.is_start) (whole ∙ ap (λ l. l ++ rest) is.whole
    ∙ append_assoc _ is.others rest)

long : (xs : List ℕ) → xs ≢ [] → 0 < length xs
long [] some = absurd (some refl)
long (x ∷ xs) some = omega arith

-- ---- pieces one after another
-- So far such pieces stood at the front.
pub record HasPieces (P : List ℕ → Type 0) (bytes rest : List ℕ) : Type 0 where
  pub front : List ℕ
  pub are_made : AreMadeOf P front
  pub whole : bytes ≡ front ++ rest

pub no_pieces : (P : List ℕ → Type 0) (bytes : List ℕ) → HasPieces P bytes bytes
no_pieces P bytes = record { front = []; are_made = record { pieces = []; are_pieces = tt; whole = refl }; whole = refl }

all_push : (P : List ℕ → Type 0) (ps : List (List ℕ)) (p : List ℕ) → AllByRecursion P ps → P p → AllByRecursion P (ps ++ p ∷ [])
all_push P [] p all is = (is, tt)
all_push P (x ∷ xs) p all is = (all.0, all_push P xs p all.1 is)

pub piece_more : (P : List ℕ → Type 0) (bytes rest more : List ℕ) → HasPieces P bytes rest → Begins P rest more → HasPieces P bytes more
piece_more P bytes rest more h b = record {
  front = h.front ++ b.item;
  are_made = record {
    pieces = h.are_made.pieces ++ b.item ∷ [];
    are_pieces = all_push P h.are_made.pieces b.item h.are_made.are_pieces b.is_item;
    whole =
        ap (λ l. l ++ b.item) h.are_made.whole ∙ sym (joined_push h.are_made.pieces b.item);
  };
  whole = h.whole ∙ ap (λ l. h.front ++ l) b.whole ∙ sym (append_assoc h.front b.item more);
}

pub pieces_end : (P : List ℕ → Type 0) (bytes rest : List ℕ) → HasPieces P bytes rest → BeginsNone P rest → TakesPieces P bytes rest
pieces_end P bytes rest h none = record { front = h.front; are_made = h.are_made; whole = h.whole; ends = none }

module _ (R : List ℕ → Type 0) (are_references : (bytes : List ℕ) → R bytes → IsReference bytes) where
  -- What an attribute is, from the left.
  pub record Steps (bytes rest : List ℕ) : Type 0 where
    pub name : List ℕ
    pub value : List ℕ
    pub start : List ℕ
    pub named : List ℕ
    pub blank : after_blank bytes ≡ Some start
    pub is_name : TakesName start name named
    pub is_part : Begins (IsPart name value) bytes rest
    pub are_pieces : AreMadeOf (IsTextPiece R) value

  pub steps : (bytes rest : List ℕ) → Begins (IsAttribute R) bytes rest → Steps bytes rest
  steps bytes rest b =
      let is = b.is_item in
      let v = value_is_quoted R are_references is.value is.is_value in
      let part : Begins (IsPart is.name is.is_value.value) bytes rest =
      record {
        item = b.item;
        is_item = record {
          space = is.space;
          equals = is.equals;
          quoted = is.value;
          is_space = is.is_space;
          is_eq = is.is_eq;
          is_quoted = v.0;
          whole = is.whole;
        };
        whole = b.whole;
      } in
      let s = part_steps is.name bytes is.is_value.value rest (name_some is.name is.is_name) (name_alone_black is.name is.is_name) part in
      record {
        name = is.name;
        value = is.is_value.value;
        start = s.start;
        named = s.named;
        blank = s.blank;
        is_name = record { is_name = is.is_name; whole = s.is_word; ends = equals_ends_name s.named s.valued s.is_eq };
        is_part = part;
        are_pieces = v.1;
      }

  pub by_part : (bytes name value rest : List ℕ) → IsName name → Begins (IsPart name value) bytes rest → AreMadeOf (IsTextPiece R) value → Begins (IsAttribute R) bytes rest
  by_part bytes name value rest is b made =
      let p = b.is_item in
      record {
        item = b.item;
        is_item = record {
          space = p.space;
          name = name;
          equals = p.equals;
          value = p.quoted;
          is_space = p.is_space;
          is_name = is;
          is_eq = p.is_eq;
          is_value =
              quoted_is_value R are_references value p.quoted p.is_quoted made;
          whole = p.whole;
        };
        whole = b.whole;
      }

  -- the name that is read is the attribute's
  same_first : (bytes start name after rest : List ℕ) → after_blank bytes ≡ Some start → TakesName start name after → (s : Steps bytes rest) → s.name ≡ name
  same_first bytes start name after rest e taken s =
      let blank = s.blank in
      let same : s.start ≡ start = cc in
      (same_name start s.name s.named name after (subst (λ (l : List ℕ). TakesName l s.name s.named) same s.is_name) taken).0

  pub none_by_blank : (bytes : List ℕ) → after_blank bytes ≡ None → BeginsNone (IsAttribute R) bytes
  none_by_blank bytes e rest b = let blank = (steps bytes rest b).blank in cc

  pub none_by_name : (bytes start : List ℕ) → after_blank bytes ≡ Some start → BeginsNoName start → BeginsNone (IsAttribute R) bytes
  none_by_name bytes start e none rest b =
      let s = steps bytes rest b in
      let blank = s.blank in
      let same : s.start ≡ start = cc in
      none s.name s.named s.is_name.is_name (sym same ∙ s.is_name.whole)

  pub none_by_part : (bytes start name after : List ℕ) → after_blank bytes ≡ Some start → TakesName start name after → BeginsNoPart name bytes → BeginsNone (IsAttribute R) bytes
  none_by_part bytes start name after e taken none rest b =
      let s = steps bytes rest b in
      none s.value rest (subst (λ (n : List ℕ). Begins (IsPart n s.value) bytes rest) (same_first bytes start name after rest e taken s) s.is_part)

  pub none_by_value : (bytes start name after value more : List ℕ) →
      after_blank bytes ≡ Some start → TakesName start name after →
      Begins (IsPart name value) bytes more → (AreMadeOf (IsTextPiece R) value → ⊥) →
      BeginsNone (IsAttribute R) bytes
  none_by_value bytes start name after value more e taken part never rest b =
      let s = steps bytes rest b in
      let own = subst (λ (n : List ℕ). Begins (IsPart n s.value) bytes rest) (same_first bytes start name after rest e taken s) s.is_part in
      let same = (same_part name bytes (name_some name taken.is_name) (name_alone_black name taken.is_name) s.value rest value more own part).0 in
      never (subst (λ (l : List ℕ). AreMadeOf (IsTextPiece R) l) same s.are_pieces)

  -- at most one attribute begins
  pub one_attribute : (bytes rest more : List ℕ) → Begins (IsAttribute R) bytes rest → Begins (IsAttribute R) bytes more → rest ≡ more
  one_attribute bytes rest more a b =
      let s = steps bytes rest a in
      let t = steps bytes more b in
      let own = subst (λ (n : List ℕ). Begins (IsPart n t.value) bytes more) (same_first bytes s.start s.name s.named more s.blank s.is_name t) t.is_part in
      (same_part s.name bytes (name_some s.name s.is_name.is_name) (name_alone_black s.name s.is_name.is_name) s.value rest t.value more s.is_part own).1

  -- an attribute isn't nothing
  pub attribute_shorter : (bytes rest : List ℕ) → Begins (IsAttribute R) bytes rest → length rest < length bytes
  attribute_shorter bytes rest b =
      let is = b.is_item in
      omega (arith, ap length b.whole, length-append b.item rest, ap length is.whole, length-append is.space (is.name ++ (is.equals ++ is.value)), long is.space is.is_space.some)

  -- none stands at the end of a tag
  none_at_end : (space more : List ℕ) → IsOptionalSpace space → ends_tag more ≡ true → BeginsNone (IsAttribute R) (space ++ more)
  none_at_end [] more s e rest b = none_by_blank more (black_is_no_blank more (end_is_black more e)) rest b
  none_at_end (x ∷ xs) more s e rest b =
      none_by_name ((x ∷ xs) ++ more) more (after_blank-append (x ∷ xs) more record { some = λ none. cc; space = s } (end_is_black more e)) (end_is_no_name more e) rest b

  same_pieces : (ps qs : List (List ℕ)) (s t r m : List ℕ) → AllByRecursion (IsAttribute R) ps →
      AllByRecursion (IsAttribute R) qs → IsOptionalSpace s → IsOptionalSpace t →
      begins is_space r ≡ false → BeginsNone (IsAttribute R) (s ++ r) → ends_tag m ≡ true →
      joined ps ++ (s ++ r) ≡ joined qs ++ (t ++ m) → (joined ps ++ s ≡ joined qs ++ t) × (r ≡ m)
  same_pieces [] [] s t r m all others white space black none ends e =
      let rests : r ≡ m = sym (after_space-append s r white black) ∙ ap after_space e ∙ after_space-append t m space (end_is_black m ends) in
      (before s t r (e ∙ ap (λ l. t ++ l) (sym rests)), rests)
  same_pieces [] (q ∷ qs) s t r m all others white space black none ends e =
      absurd (none (joined qs
      ++ (t ++ m)) record { item = q; is_item = others.0; whole = e ∙ append_assoc q (joined qs) (t ++ m) })
  same_pieces (p ∷ ps) [] s t r m all others white space black none ends e =
      absurd (none_at_end t m space ends (joined ps ++ (s ++ r)) record { item = p; is_item = all.0; whole = sym e ∙ append_assoc p (joined ps) (s ++ r) })
  same_pieces (p ∷ ps) (q ∷ qs) s t r m all others white space black none ends e =
      let left = append_assoc p (joined ps) (s ++ r) in
      let right = append_assoc q (joined qs) (t ++ m) in
      let whole : p ++ (joined ps ++ (s ++ r)) ≡ q ++ (joined qs ++ (t ++ m)) = sym left ∙ e ∙ right in
      let rests = one_attribute (p ++ (joined ps ++ (s ++ r))) (joined ps ++ (s ++ r)) (joined qs
      ++ (t ++ m)) record { item = p; is_item = all.0; whole = refl }
      record { item = q; is_item = others.0; whole = whole } in
      let first : p ≡ q = before p q (joined ps ++ (s ++ r)) (whole ∙ ap (λ l. q ++ l) (sym rests)) in
      let below = same_pieces ps qs s t r m all.1 others.1 white space black none ends rests in
      (append_assoc p (joined ps) s ∙ (λ i. first i ++ below.0 i) ∙ sym (append_assoc q (joined qs) t), below.1)

  pub takes_attributes : (bytes end rest : List ℕ) → TakesPieces (IsAttribute R) bytes end →
      TakesSpace end rest → TakesAttributes R bytes (take (length bytes - length rest) bytes)
      (drop (length bytes - length rest) bytes)
  takes_attributes bytes end rest taken s =
      let attrs = taken.front ++ s.space in
      let whole : bytes ≡ attrs ++ rest = taken.whole ∙ ap (λ l. taken.front ++ l) s.whole ∙ sym (append_assoc taken.front s.space rest) in
      let cut = cut_at bytes attrs rest whole in
      rw (cut.0, cut.1) record {
        are_attributes = record { attributes = taken.front; space = s.space; are_attributes = taken.are_made; is_space = s.optional; whole = refl };
        whole = whole;
        only = λ other more is e ends.
            let p = taken.are_made in
            let q = is.are_attributes in
            let own : joined p.pieces ++ (s.space ++ rest) ≡ joined q.pieces ++ (is.space ++ more) =
            ap (λ l. l ++ (s.space ++ rest)) (sym p.whole) ∙ ap (λ l. taken.front ++ l)
            (sym s.whole) ∙ sym taken.whole ∙ e ∙ ap (λ l. l ++ more) is.whole
            ∙ append_assoc is.attributes is.space more ∙ ap (λ l. l ++ (is.space ++ more)) q.whole in
            let none : BeginsNone (IsAttribute R) (s.space ++ rest) = subst (λ (l : List ℕ). BeginsNone (IsAttribute R) l) s.whole taken.ends in
            let same = same_pieces p.pieces q.pieces s.space is.space rest more p.are_pieces q.are_pieces s.optional is.is_space s.ends none ends own in
            (ap (λ l. l ++ s.space) p.whole ∙ same.0 ∙ ap (λ l. l ++ is.space) (sym q.whole) ∙ sym is.whole, same.1);
      }

  -- attributes up to the end of a tag are determined
  pub same_attributes : (a b r m : List ℕ) → IsAttributes R a → IsAttributes R b → ends_tag r ≡ true → ends_tag m ≡ true → a ++ r ≡ b ++ m → (a ≡ b) × (r ≡ m)
  same_attributes a b r m is other ends more e =
      let p = is.are_attributes in
      let q = other.are_attributes in
      let own : joined p.pieces ++ (is.space ++ r) ≡ joined q.pieces ++ (other.space ++ m) =
      ap (λ l. l ++ (is.space ++ r)) (sym p.whole) ∙ sym (append_assoc is.attributes is.space r)
      ∙ ap (λ l. l ++ r) (sym is.whole) ∙ e ∙ ap (λ l. l ++ m) other.whole
      ∙ append_assoc other.attributes other.space m ∙ ap (λ l. l ++ (other.space ++ m)) q.whole in
      let same = same_pieces p.pieces q.pieces is.space other.space r m p.are_pieces q.are_pieces is.is_space other.is_space (end_is_black r ends) (none_at_end is.space r is.is_space ends) more own in
      (is.whole ∙ ap (λ l. l ++ is.space) p.whole ∙ same.0 ∙ ap (λ l. l ++ other.space) (sym q.whole) ∙ sym other.whole, same.1)

  -- attributes, where there are some bytes of them, begin with white space
  first_white : (ps : List (List ℕ)) (space : List ℕ) (x : ℕ) (xs : List ℕ) → AllByRecursion (IsAttribute R) ps → IsOptionalSpace space → x ∷ xs ≡ joined ps ++ space → is_space x ≡ true
  first_white [] [] x xs all white e = cc
  first_white [] (y ∷ ys) x xs all white e = let same : y ≡ x = cc in subst (λ (b : ℕ). is_space b ≡ true) same (and_parts (is_space y) (list_all is_space ys) white).0
  first_white (p ∷ ps) space x xs all white e =
      let is = all.0 in
      by _ is.space is.is_space.some is.is_space.space (e ∙ append_assoc p (joined ps) space
      ∙ ap (λ l. l ++ (joined ps ++ space)) is.whole ∙ append_assoc is.space (is.name
      ++ (is.equals ++ is.value)) (joined ps ++ space))
    where
      by : (others s : List ℕ) → s ≢ [] → IsOptionalSpace s → x ∷ xs ≡ s ++ others → is_space x ≡ true
      by others [] some white f = absurd (some refl)
      by others (y ∷ ys) some white f = let same : y ≡ x = cc in subst (λ (b : ℕ). is_space b ≡ true) same (and_parts (is_space y) (list_all is_space ys) white).0

  -- so they end a name
  pub attributes_end_name : (attrs rest : List ℕ) → IsAttributes R attrs → BeginsNo is_name_char rest → BeginsNo is_name_char (attrs ++ rest)
  attributes_end_name [] rest is ends = ends
  attributes_end_name (x ∷ xs) rest is ends =
      let white = first_white is.are_attributes.pieces is.space x xs is.are_attributes.are_pieces is.is_space (is.whole ∙ ap (λ l. l ++ is.space) is.are_attributes.whole) in
      ascii_ends is_name_char x (xs ++ rest) (space_is_ascii x white) (space_in_no_name x white)
