-- Comments and CDATA sections, read from the front.
use Rattle.std.proofs.Common.{◌≡◌, ◌≢◌, ℕ, ◌<◌, List, [], ◌∷◌, ◌++◌, length, drop, refl, sym, ap, subst, ◌∙◌, arith, append_assoc, length-append}
use Rattle.std.proofs.lemmas.List.{drop_at}
use Rattle.std.specs.Prelude.{codes}
use Rattle.pv_chars.specs.Characters.{IsChars}
use Rattle.pv_chars.specs.Fronts.{Begins, BeginsNone, ContainsBytes, EndsAt}
use Rattle.pv_chars.specs.Markup.{IsComment, IsCdata}
use Rattle.pv_chars.proofs.DelimiterPlaces.{same_end}
use Rattle.pv_chars.proofs.FirstDelimiters.{Straddles, ends_behind, by_no_border, three_have_no_border}

-- what stands after one front is one only
pub behind : (front a b : List ℕ) → front ++ a ≡ front ++ b → a ≡ b
behind front a b e = sym (drop_at front a (length front) refl) ∙ ap (drop (length front)) e ∙ drop_at front b (length front) refl

-- a text before the first place of a delimiter doesn't hold it
pub none_before_end : (delimiter bytes text after : List ℕ) → 0 < length delimiter → EndsAt delimiter bytes text after → ContainsBytes text delimiter → ⊥
none_before_end delimiter bytes text after some ends holds =
    let whole : bytes ≡ holds.before ++ (delimiter ++ (holds.after ++ (delimiter ++ after))) =
    ends.whole ∙ ap (λ l. l ++ (delimiter ++ after)) holds.whole ∙ append_assoc holds.before
    (delimiter ++ holds.after) (delimiter ++ after) ∙ ap (λ l. holds.before ++ l)
    (append_assoc delimiter holds.after (delimiter ++ after)) in
    let least = ends.first holds.before (holds.after ++ (delimiter ++ after)) whole in
    omega (arith, ap length holds.whole, length-append holds.before (delimiter ++ holds.after), length-append delimiter holds.after)

-- ---- comments
no_dashes_by : (text before inside outside : List ℕ) → ((front : List ℕ) → text ≡ front
    ++ codes "-" → ⊥) → text ≡ before ++ inside → codes "--" ≡ inside ++ outside →
    0 < length inside → 0 < length outside → ⊥
no_dashes_by text before [] outside no_dash e f some more = omega arith
no_dashes_by text before (x ∷ []) outside no_dash e f some more = let dash : x ≡ 45 = cc in no_dash before (e ∙ ap (λ b. before ++ b ∷ []) dash)
no_dashes_by text before (x ∷ y ∷ xs) outside no_dash e f some more = let long = ap length f in omega (arith, length-append (x ∷ y ∷ xs) outside)

no_dashes_behind : (text : List ℕ) → ((front : List ℕ) → text ≡ front ++ codes "-" → ⊥) → Straddles (codes "--") text → ⊥
no_dashes_behind text no_dash s = no_dashes_by text s.before s.inside s.outside no_dash s.text_is s.part_is s.some_inside s.some_outside

-- what follows from a comment at the front
pub record EndsComment (inside text rest : List ℕ) : Type 0 where
  pub are_chars : IsChars text
  pub ends : EndsAt (codes "--") inside text (codes ">" ++ rest)

pub comment_ends : (bytes inside rest : List ℕ) → bytes ≡ codes "<!--" ++ inside → Begins IsComment bytes rest → (text : List ℕ) × EndsComment inside text rest
comment_ends bytes inside rest e c =
    let i = c.is_item in
    let own : inside ≡ i.text ++ (codes "--" ++ (codes ">" ++ rest)) =
    behind (codes "<!--") inside _ (sym e ∙ c.whole ∙ ap (λ l. l ++ rest) i.whole
    ∙ append_assoc (codes "<!--") (i.text ++ codes "-->") rest ∙ ap (λ l. codes "<!--" ++ l)
    (append_assoc i.text (codes "-->") rest)) in
    (i.text, record { are_chars = i.are_chars; ends = rw own (ends_behind (codes "--") i.text (codes ">" ++ rest) i.no_dashes (no_dashes_behind i.text i.no_dash_at_end)) })

pub comment_by : (bytes inside text end rest : List ℕ) → bytes ≡ codes "<!--" ++ inside → EndsAt (codes "--") inside text end → IsChars text → end ≡ codes ">" ++ rest → Begins IsComment bytes rest
comment_by bytes inside text end rest e ends chars closes = record {
  item = codes "<!--" ++ (text ++ codes "-->");
  is_item = record {
    text = text;
    are_chars = chars;
    no_dashes = none_before_end (codes "--") inside text end (omega arith) ends;
    no_dash_at_end = λ front last.
        let least = ends.first front (codes "-" ++ end) (ends.whole ∙ ap (λ l. l ++ (codes "--" ++ end)) last ∙ append_assoc front (codes "-") (codes "--" ++ end)) in
        omega (arith, ap length last, length-append front (codes "-"));
    whole = refl;
  };
  whole = e ∙ ap (λ l. codes "<!--" ++ l) (ends.whole ∙ ap (λ l. text ++ (codes "--" ++ l)) closes
      ∙ sym (append_assoc text (codes "-->") rest)) ∙ sym (append_assoc (codes "<!--") (text
      ++ codes "-->") rest);
}

-- where no comment begins
pub no_comment_start : (bytes : List ℕ) → ((rest : List ℕ) → bytes ≢ codes "<!--" ++ rest) → BeginsNone IsComment bytes
no_comment_start bytes none rest c = none (c.is_item.text ++ codes "-->" ++ rest) (c.whole ∙ ap (λ l. l ++ rest) c.is_item.whole ∙ append_assoc (codes "<!--") (c.is_item.text ++ codes "-->") rest)

pub no_comment_end : (bytes inside : List ℕ) → bytes ≡ codes "<!--" ++ inside → (ContainsBytes inside (codes "--") → ⊥) → BeginsNone IsComment bytes
no_comment_end bytes inside e none rest c = let found = comment_ends bytes inside rest e c in none record { before = found.0; after = codes ">" ++ rest; whole = found.1.ends.whole }

pub no_comment_text : (bytes inside text end : List ℕ) → bytes ≡ codes "<!--" ++ inside → EndsAt (codes "--") inside text end → (IsChars text → ⊥) → BeginsNone IsComment bytes
no_comment_text bytes inside text end e ends none rest c =
    let found = comment_ends bytes inside rest e c in
    let same = same_end (codes "--") inside text end found.0 (codes ">" ++ rest) ends found.1.ends in
    none (let P : List ℕ → Type 0 = λ t. IsChars t in subst P (sym same.0) found.1.are_chars)

pub no_comment_close : (bytes inside text end : List ℕ) → bytes ≡ codes "<!--" ++ inside →
    EndsAt (codes "--") inside text end → ((rest : List ℕ) → end ≢ codes ">" ++ rest) →
    BeginsNone IsComment bytes
no_comment_close bytes inside text end e ends none rest c =
    let found = comment_ends bytes inside rest e c in
    none rest (same_end (codes "--") inside text end found.0 (codes ">" ++ rest) ends found.1.ends).1

-- at most one comment begins
pub one_comment : (bytes rest more : List ℕ) → Begins IsComment bytes rest → Begins IsComment bytes more → rest ≡ more
one_comment bytes rest more a b =
    let inside = a.is_item.text ++ codes "-->" ++ rest in
    let e : bytes ≡ codes "<!--" ++ inside = a.whole ∙ ap (λ l. l ++ rest) a.is_item.whole ∙ append_assoc (codes "<!--") (a.is_item.text ++ codes "-->") rest in
    let first = comment_ends bytes inside rest e a in
    let second = comment_ends bytes inside more e b in
    behind (codes ">") rest more (same_end (codes "--") inside first.0 (codes ">" ++ rest) second.0 (codes ">" ++ more) first.1.ends second.1.ends).1

-- ---- CDATA sections
pub record EndsCdata (inside text rest : List ℕ) : Type 0 where
  pub are_chars : IsChars text
  pub ends : EndsAt (codes "]]>") inside text rest

pub cdata_ends : (bytes inside rest : List ℕ) → bytes ≡ codes "<![CDATA[" ++ inside → Begins IsCdata bytes rest → (text : List ℕ) × EndsCdata inside text rest
cdata_ends bytes inside rest e c =
    let i = c.is_item in
    let own : inside ≡ i.text ++ (codes "]]>" ++ rest) =
    behind (codes "<![CDATA[") inside _ (sym e ∙ c.whole ∙ ap (λ l. l ++ rest) i.whole
    ∙ append_assoc (codes "<![CDATA[") (i.text ++ codes "]]>") rest ∙ ap (λ l. codes "<![CDATA["
    ++ l) (append_assoc i.text (codes "]]>") rest)) in
    (i.text, record { are_chars = i.are_chars; ends = rw own (ends_behind (codes "]]>") i.text rest i.no_end (by_no_border (codes "]]>") i.text (three_have_no_border 93 62 (λ same. omega arith)))) })

pub cdata_by : (bytes inside text rest : List ℕ) → bytes ≡ codes "<![CDATA[" ++ inside → EndsAt (codes "]]>") inside text rest → IsChars text → Begins IsCdata bytes rest
cdata_by bytes inside text rest e ends chars = record {
  item = codes "<![CDATA[" ++ (text ++ codes "]]>");
  is_item = record { text = text; are_chars = chars; no_end = none_before_end (codes "]]>") inside text rest (omega arith) ends; whole = refl };
  whole = e ∙ ap (λ l. codes "<![CDATA[" ++ l) (ends.whole ∙ sym (append_assoc text (codes "]]>") rest)) ∙ sym (append_assoc (codes "<![CDATA[") (text ++ codes "]]>") rest);
}

pub no_cdata_text : (bytes inside text end : List ℕ) → bytes ≡ codes "<![CDATA[" ++ inside → EndsAt (codes "]]>") inside text end → (IsChars text → ⊥) → BeginsNone IsCdata bytes
no_cdata_text bytes inside text end e ends none rest c =
    let found = cdata_ends bytes inside rest e c in
    let same = same_end (codes "]]>") inside text end found.0 rest ends found.1.ends in
    none (let P : List ℕ → Type 0 = λ t. IsChars t in subst P (sym same.0) found.1.are_chars)

-- at most one CDATA section begins
pub one_cdata : (bytes rest more : List ℕ) → Begins IsCdata bytes rest → Begins IsCdata bytes more → rest ≡ more
one_cdata bytes rest more a b =
    let inside = a.is_item.text ++ codes "]]>" ++ rest in
    let e : bytes ≡ codes "<![CDATA[" ++ inside = a.whole ∙ ap (λ l. l ++ rest) a.is_item.whole ∙ append_assoc (codes "<![CDATA[") (a.is_item.text ++ codes "]]>") rest in
    let first = cdata_ends bytes inside rest e a in
    let second = cdata_ends bytes inside more e b in
    (same_end (codes "]]>") inside first.0 rest second.0 more first.1.ends second.1.ends).1
