-- Processing instructions, read from the front.
use Rattle.std.proofs.Common.{◌≡◌, ◌≢◌, ℕ, ◌-◌, ◌≤◌, get_or, take, drop, inl, inr, List, [], ◌∷◌, ◌++◌, Bool, true, length, map, refl, sym, ap, subst, ◌∙◌, arith, append_assoc}
use Rattle.std.proofs.lemmas.Bool.{and_parts, and_from}
use Rattle.std.specs.Prelude.{codes, IsTrue}
use Rattle.std.specs.List.{list_all}
use Rattle.std.specs.Char.{to_ascii_lowercase}
use Rattle.pv_chars.specs.Spaces.{is_space, IsSpace}
use Rattle.pv_chars.specs.Characters.{is_char, is_name_char, IsChars, BeginsNo}
use Rattle.pv_chars.specs.Names.{TakesName, BeginsNoName}
use Rattle.pv_chars.specs.Fronts.{Begins, BeginsNone, ContainsBytes, EndsAt}
use Rattle.pv_chars.specs.Markup.{IsSpacedChars, IsBehindTarget, IsInstruction}
use Rattle.pv_chars.proofs.CharacterLemmas.{AreAll-append}
use Rattle.pv_chars.proofs.NameLemmas.{same_name}
use Rattle.pv_chars.proofs.Arms.{others_of}
use Rattle.pv_chars.proofs.SpaceLemmas.{space_are_chars, space_ends_name, ascii_ends}
use Rattle.pv_chars.proofs.DelimiterPlaces.{same_end}
use Rattle.pv_chars.proofs.FirstDelimiters.{ends_behind, by_no_border, two_have_no_border}
use Rattle.pv_chars.proofs.MarkupLemmas.{behind, none_before_end}

-- ---- what stands after a target
pub spaced_by : (b : ℕ) (text : List ℕ) → is_space b ≡ true → IsChars text → IsSpacedChars (b ∷ text)
spaced_by b text white chars = record { space = b ∷ []; text = text; is_space = record { some = λ none. cc; space = and_from (is_space b) true white refl }; are_chars = chars; whole = refl }

spaced_parts : (b : ℕ) (more space text : List ℕ) → IsSpace space → IsChars text → b ∷ more ≡ space ++ text → (is_space b ≡ true) × IsChars more
spaced_parts b more [] text s chars e = absurd (s.some refl)
spaced_parts b more (x ∷ xs) text s chars e =
    let white = and_parts (is_space x) (list_all is_space xs) s.space in
    let first : b ≡ x = cc in
    let others : more ≡ xs ++ text = cc in
    (rw first white.0, rw others (AreAll-append is_char xs text (space_are_chars xs white.1) chars))

spaced_is : (b : ℕ) (more : List ℕ) → IsSpacedChars (b ∷ more) → (is_space b ≡ true) × IsChars more
spaced_is b more s = spaced_parts b more s.space s.text s.is_space s.are_chars s.whole

pub behind_target_is : (b : ℕ) (more : List ℕ) → IsBehindTarget (b ∷ more) → (is_space b ≡ true) × IsChars more
behind_target_is b more (inl none) = cc
behind_target_is b more (inr spaced) = spaced_is b more spaced

-- ---- the parts of an instruction, and what it ends at
pub record EndsInstruction (start target after text rest : List ℕ) : Type 0 where
  pub named : TakesName start target after
  pub not_xml : map to_ascii_lowercase target ≡ codes "xml" → ⊥
  pub ends : EndsAt (codes "?>") after text rest
  pub is_behind : IsBehindTarget text

name_ends : (text rest : List ℕ) → IsBehindTarget text → BeginsNo is_name_char (text ++ (codes "?>" ++ rest))
name_ends text rest (inl none) = rw none (ascii_ends is_name_char 63 (62 ∷ rest) (omega arith) refl)
name_ends text rest (inr s) = rw (s.whole, append_assoc s.space s.text (codes "?>" ++ rest)) (space_ends_name s.space (s.text ++ (codes "?>" ++ rest)) s.is_space)

pub instruction_ends : (bytes start rest : List ℕ) → bytes ≡ codes "<?" ++ start →
    (i : Begins IsInstruction bytes rest) → EndsInstruction start i.is_item.target (i.is_item.behind
    ++ (codes "?>" ++ rest)) i.is_item.behind rest
instruction_ends bytes start rest e b =
    let i = b.is_item in
    let whole : start ≡ i.target ++ (i.behind ++ (codes "?>" ++ rest)) =
    behind (codes "<?") start _ (sym e ∙ b.whole ∙ ap (λ l. l ++ rest) i.whole
    ∙ append_assoc (codes "<?") (i.target ++ (i.behind ++ codes "?>")) rest
    ∙ ap (λ l. codes "<?" ++ l) (append_assoc i.target (i.behind ++ codes "?>") rest
    ∙ ap (λ l. i.target ++ l) (append_assoc i.behind (codes "?>") rest))) in
    record {
      named = record { is_name = i.is_target.is_name; whole = whole; ends = name_ends i.behind rest i.is_behind };
      not_xml = i.is_target.not_xml;
      ends = ends_behind (codes "?>") i.behind rest i.no_end (by_no_border (codes "?>") i.behind (two_have_no_border 63 62 (λ same. omega arith)));
      is_behind = i.is_behind;
    }

pub instruction_by : (bytes start target after text rest : List ℕ) → bytes ≡ codes "<?" ++ start → EndsInstruction start target after text rest → Begins IsInstruction bytes rest
instruction_by bytes start target after text rest e i = record {
  item = codes "<?" ++ (target ++ (text ++ codes "?>"));
  is_item = record {
    target = target;
    behind = text;
    is_target = record { is_name = i.named.is_name; not_xml = i.not_xml };
    is_behind =
        i.is_behind;
    no_end = none_before_end (codes "?>") after text rest (omega arith) i.ends;
    whole = refl;
  };
  whole = e ∙ ap (λ l. codes "<?" ++ l) (i.named.whole ∙ ap (λ l. target ++ l) (i.ends.whole
      ∙ sym (append_assoc text (codes "?>") rest))
      ∙ sym (append_assoc target (text ++ codes "?>") rest))
      ∙ sym (append_assoc (codes "<?") (target ++ (text ++ codes "?>")) rest);
}

-- ---- where none begins
pub no_instruction_start : (bytes : List ℕ) → ((rest : List ℕ) → bytes ≢ codes "<?" ++ rest) → BeginsNone IsInstruction bytes
no_instruction_start bytes none rest b = let i = b.is_item in
    none ((i.target ++ (i.behind ++ codes "?>")) ++ rest) (b.whole ∙ ap (λ l. l ++ rest) i.whole
    ∙ append_assoc (codes "<?") (i.target ++ (i.behind ++ codes "?>")) rest)

pub no_instruction_name : (bytes start : List ℕ) → bytes ≡ codes "<?" ++ start → BeginsNoName start → BeginsNone IsInstruction bytes
no_instruction_name bytes start e none rest b = let i = instruction_ends bytes start rest e b in none _ _ i.named.is_name i.named.whole

pub no_instruction_target : (bytes start target after : List ℕ) → bytes ≡ codes "<?" ++ start →
    TakesName start target after → map to_ascii_lowercase target ≡ codes "xml" →
    BeginsNone IsInstruction bytes
no_instruction_target bytes start target after e named xml rest b =
    let i = instruction_ends bytes start rest e b in
    let same = same_name start target after _ _ named i.named in
    i.not_xml (ap (map to_ascii_lowercase) (sym same.0) ∙ xml)

pub no_instruction_end : (bytes start target after : List ℕ) → bytes ≡ codes "<?" ++ start → TakesName start target after → (ContainsBytes after (codes "?>") → ⊥) → BeginsNone IsInstruction bytes
no_instruction_end bytes start target after e named none rest b =
    let i = instruction_ends bytes start rest e b in
    let same = same_name start target after _ _ named i.named in
    none record { before = b.is_item.behind; after = rest; whole = same.1 ∙ refl }

-- what an instruction's target is followed by, where it is cut at the first `?>`
pub same_behind : (bytes start target after text more rest : List ℕ) → bytes ≡ codes "<?" ++ start →
    TakesName start target after → EndsAt (codes "?>") after text more →
    (b : Begins IsInstruction bytes rest) → (text ≡ b.is_item.behind) × (more ≡ rest)
same_behind bytes start target after text more rest e named ends b =
    let i = instruction_ends bytes start rest e b in
    let same = (same_name start target after _ _ named i.named).1 in
    let own : EndsAt (codes "?>") after b.is_item.behind rest = rw same i.ends in
    same_end (codes "?>") after text more b.is_item.behind rest ends own

pub no_instruction_text : (bytes start target after text more : List ℕ) → bytes ≡ codes "<?"
    ++ start → TakesName start target after → EndsAt (codes "?>") after text more →
    (IsBehindTarget text → ⊥) → BeginsNone IsInstruction bytes
no_instruction_text bytes start target after text more e named ends none rest b =
    let same = (same_behind bytes start target after text more rest e named ends b).0 in
    none (let P : List ℕ → Type 0 = λ t. IsBehindTarget t in subst P (sym same) b.is_item.is_behind)

-- at most one instruction begins
pub one_instruction : (bytes rest more : List ℕ) → Begins IsInstruction bytes rest → Begins IsInstruction bytes more → rest ≡ more
one_instruction bytes rest more a b =
    let i = a.is_item in
    let start = (i.target ++ (i.behind ++ codes "?>")) ++ rest in
    let e : bytes ≡ codes "<?" ++ start = a.whole ∙ ap (λ l. l ++ rest) i.whole ∙ append_assoc (codes "<?") (i.target ++ (i.behind ++ codes "?>")) rest in
    let first = instruction_ends bytes start rest e a in
    (same_behind bytes start _ _ _ rest more e first.named first.ends b).1

behind_target_by : (b : ℕ) (more text : List ℕ) (chars : Bool) → text ≡ more → is_space b ≡ true →
    ((IsTrue chars → IsChars text) × (IsChars text → IsTrue chars)) →
    (IsTrue chars → IsBehindTarget (b ∷ more)) × (IsBehindTarget (b ∷ more) → IsTrue chars)
behind_target_by b more text chars same white tells = (
  (λ t. inr (spaced_by b more white (let P : List ℕ → Type 0 = λ l. IsChars l in subst P same (tells.0 t)))),
  (λ is. tells.1 (let P : List ℕ → Type 0 = λ l. IsChars l in subst P (sym same) (behind_target_is b more is).1)),
)

-- a byte and the others: nothing, or S and Chars, where the byte is white and the others are Chars
pub behind_target_where : (bytes : List ℕ) (chars : Bool) → 1 ≤ length bytes →
    is_space (get_or bytes 0 0) ≡ true →
    ((IsTrue chars → IsChars (take (length bytes - 1) (drop 1 bytes)))
    × (IsChars (take (length bytes - 1) (drop 1 bytes)) → IsTrue chars)) →
    (IsTrue chars → IsBehindTarget bytes) × (IsBehindTarget bytes → IsTrue chars)
behind_target_where [] chars some white tells = absurd (omega arith)
behind_target_where (b ∷ more) chars some white tells = behind_target_by b more _ chars (others_of b more) white tells
