-- How deep groups stand, by the parentheses that are open.
use Rattle.std.proofs.Common.{◌≡◌, ◌<◌, inl, inr, ℕ, suc, ◌+◌, max, List, [], ◌∷◌, ◌++◌, codes, Bool, true, false, ◌||◌, ◌==◌, not, cond, refl, sym, ap, ◌∙◌, append_assoc, subst, arith}
use Rattle.std.specs.Prelude.{nat_eq}
use Rattle.std.specs.List.{list_all}
use Rattle.std.proofs.lemmas.List.Folds.{list_any-append}
use Rattle.std.proofs.lemmas.Bool.{and_parts, cases_order}
use Rattle.std.proofs.lemmas.Bool.Decides.{Decides-eqb}
use Rattle.pv_chars.specs.Spaces.{IsOptionalSpace}
use Rattle.pv_chars.specs.Names.{IsName}
use Rattle.pv_dtd.specs.Facts.{MAX_NESTING}
use Rattle.pv_dtd.specs.Items.{NamedPart, name, seq, choice, opt, star, plus, NamedParts, no_parts, part, NamedModel, empty, any, mixed, children}
use Rattle.pv_dtd.specs.Items.{DtdItem, text_declaration, element, skipped, comment, instruction}
use Rattle.pv_dtd.specs.Spelling.{StandsAt, SpellsPart, SpellsGroup, SpellsOthers, SpellsElement, nesting_of, nesting_of_all}
use Rattle.pv_chars.specs.Declarations.{is_one_of}
use Rattle.pv_dtd.specs.Kinds.{IsTooDeep, how_many}
use Rattle.pv_chars.proofs.NameBytes.{is_name_byte, space_passes, name_passes}
use Rattle.pv_dtd.specs.SoFar.{IsShallow, IsShallowItem}

-- a parenthesis or '>'
abbrev pub is_mark : ℕ → Bool
is_mark b = (b == 40) || (b == 41) || (b == 62)

-- no '>', and as many parentheses are opened as closed
pub record IsLevel (text : List ℕ) : Type 0 where
  pub unclosed : is_one_of text 62 ≡ false
  pub level : how_many 40 text ≡ how_many 41 text

-- so many are open somewhere, and no '>' stands before
record Rises (n : ℕ) (text : List ℕ) : Type 0 where
  before : List ℕ
  rest : List ℕ
  whole : text ≡ before ++ rest
  unclosed : is_one_of before 62 ≡ false
  deep : how_many 40 before ≡ n + how_many 41 before

pub how_many-append : (byte : ℕ) (a b : List ℕ) → how_many byte (a ++ b) ≡ how_many byte a + how_many byte b
how_many-append byte [] b = omega arith
how_many-append byte (x ∷ xs) b = by (x == byte) (how_many-append byte xs b)
  where
    by : (is : Bool) → how_many byte (xs ++ b) ≡ how_many byte xs + how_many byte b →
        cond is (suc (how_many byte (xs ++ b))) (how_many byte (xs ++ b))
        ≡ cond is (suc (how_many byte xs)) (how_many byte xs) + how_many byte b
    by true e = omega (arith, e)
    by false e = e

pub none-append : (a b : List ℕ) → is_one_of a 62 ≡ false → is_one_of b 62 ≡ false → is_one_of (a ++ b) 62 ≡ false
none-append a b e f = list_any-append (nat_eq 62) a b ∙ rw (e, f) refl

pub level-append : (a b : List ℕ) → IsLevel a → IsLevel b → IsLevel (a ++ b)
level-append a b e f = record { unclosed = none-append a b e.unclosed f.unclosed; level = omega (arith, e.level, f.level, how_many-append 40 a b, how_many-append 41 a b) }

rises_behind : (n : ℕ) (a b : List ℕ) → IsLevel a → Rises n b → Rises n (a ++ b)
rises_behind n a b e r = record {
  before = a ++ r.before;
  rest = r.rest;
  whole = ap (λ t. a ++ t) r.whole ∙ sym (append_assoc a r.before r.rest);
  unclosed = none-append a r.before e.unclosed r.unclosed;
  deep = omega (arith, e.level, r.deep, how_many-append 40 a r.before, how_many-append 41 a r.before);
}

rises_before : (n : ℕ) (a b : List ℕ) → Rises n a → Rises n (a ++ b)
rises_before n a b r = record { before = r.before; rest = r.rest ++ b; whole = ap (λ t. t ++ b) r.whole ∙ append_assoc r.before r.rest b; unclosed = r.unclosed; deep = r.deep }

rises_in : (n : ℕ) (inner : List ℕ) → Rises n inner → Rises (suc n) (40 ∷ inner)
rises_in n inner r = record { before = 40 ∷ r.before; rest = r.rest; whole = ap (λ t. 40 ∷ t) r.whole; unclosed = r.unclosed; deep = omega (arith, r.deep) }

no_rise : (text : List ℕ) → Rises 0 text
no_rise text = record { before = []; rest = text; whole = refl; unclosed = refl; deep = refl }

rises_to : (m n : ℕ) (text : List ℕ) → Rises m text → Rises n text → Rises (max m n) text
rises_to m n text a b =
    elim (cases_order m n) [
      | inl same ↦ subst (λ k. Rises k text) (omega (arith, same)) a
      | inr (inl less) ↦ subst (λ k. Rises k text) (omega (arith, less)) b
      | inr (inr less) ↦ subst (λ k. Rises k text) (omega (arith, less)) a
    ]

-- a text without parentheses and '>'
level_by : (b : ℕ) (bs : List ℕ) (o c e : Bool) → (b == 40) ≡ o → (b == 41) ≡ c → (b == 62) ≡ e → not (o || c || e) ≡ true → IsLevel bs → IsLevel (b ∷ bs)
level_by b bs true c e p q r all l = cc
level_by b bs false true e p q r all l = cc
level_by b bs false false true p q r all l = cc
level_by b bs false false false p q r all l = record { unclosed = rw (other (nat_eq 62 b) refl) l.unclosed; level = rw (p, q) l.level }
  where
    other : (same : Bool) → nat_eq 62 b ≡ same → same ≡ false
    other true is = let at = (Decides-eqb 62 b).0 is in let back = (Decides-eqb b 62).1 (sym at) in cc
    other false is = refl

pub plain_level : (text : List ℕ) → list_all (λ b. not (is_mark b)) text ≡ true → IsLevel text
plain_level [] all = record { unclosed = refl; level = refl }
plain_level (b ∷ bs) all =
    let here = and_parts (not (is_mark b)) (list_all (λ b. not (is_mark b)) bs) all in
    level_by b bs (b == 40) (b == 41) (b == 62) refl refl refl here.0 (plain_level bs here.1)

pub plain_space : (space : List ℕ) → IsOptionalSpace space → list_all (λ b. not (is_mark b)) space ≡ true
plain_space = space_passes (λ b. not (is_mark b)) record { space = refl; tab = refl; return = refl; feed = refl }

pub space_level : (space : List ℕ) → IsOptionalSpace space → IsLevel space
space_level space s = plain_level space (plain_space space s)

mark_by : (b : ℕ) (o c e : Bool) → (b == 40) ≡ o → (b == 41) ≡ c → (b == 62) ≡ e → is_name_byte b ≡ true → not (o || c || e) ≡ true
mark_by b true c e p q r named = let at = ap is_name_byte ((Decides-eqb b 40).0 p) in cc
mark_by b false true e p q r named = let at = ap is_name_byte ((Decides-eqb b 41).0 q) in cc
mark_by b false false true p q r named = let at = ap is_name_byte ((Decides-eqb b 62).0 r) in cc
mark_by b false false false p q r named = refl

pub plain_name : (n : List ℕ) → IsName n → list_all (λ b. not (is_mark b)) n ≡ true
plain_name = name_passes (λ b. not (is_mark b)) (λ b. mark_by b (b == 40) (b == 41) (b == 62) refl refl refl)

pub name_level : (n : List ℕ) → IsName n → IsLevel n
name_level n is = plain_level n (plain_name n is)

-- the separators and operators
separator_level : (separator : List ℕ) → list_all (λ b. not (is_mark b)) separator ≡ true → IsLevel separator
separator_level separator e = plain_level separator e

pub opened_level : (inner : List ℕ) → IsLevel inner → IsLevel (40 ∷ (inner ++ codes ")"))
opened_level inner l = record { unclosed = none-append inner (codes ")") l.unclosed refl; level = omega (arith, l.level, how_many-append 40 inner (codes ")"), how_many-append 41 inner (codes ")")) }

pub group_regrouped : (before first others after : List ℕ) → codes "(" ++ before ++ first ++ others ++ after ++ codes ")" ≡ 40 ∷ ((before ++ (first ++ (others ++ after))) ++ codes ")")
group_regrouped before first others after = simp append_assoc

pub others_regrouped : (before separator space next others : List ℕ) → before ++ separator ++ space ++ next ++ others ≡ before ++ (separator ++ (space ++ (next ++ others)))
others_regrouped before separator space next others = simp append_assoc

mutual
  pub part_level : (p : NamedPart) (text : List ℕ) → SpellsPart p text → IsLevel text
  part_level (name n) text s = rw s.1 (name_level n s.0)
  part_level (seq ps) text s = group_level (codes ",") ps text refl s
  part_level (choice ps) text s = group_level (codes "|") ps text refl s.1
  part_level (opt p) text s = rw s.3 (level-append s.0 (codes "?") (part_level p s.0 s.2) (separator_level (codes "?") refl))
  part_level (star p) text s = rw s.3 (level-append s.0 (codes "*") (part_level p s.0 s.2) (separator_level (codes "*") refl))
  part_level (plus p) text s = rw s.3 (level-append s.0 (codes "+") (part_level p s.0 s.2) (separator_level (codes "+") refl))

  group_level : (separator : List ℕ) (ps : NamedParts) (text : List ℕ) → list_all (λ b. not (is_mark b)) separator ≡ true → SpellsGroup separator ps text → IsLevel text
  group_level separator no_parts text plain s = absurd s
  group_level separator (part p ps) text plain s =
      rw (s.8, group_regrouped s.0 s.1 s.2 s.3) (opened_level (s.0 ++ (s.1 ++ (s.2 ++ s.3)))
      (level-append s.0 (s.1 ++ (s.2 ++ s.3)) (space_level s.0 s.4) (level-append s.1 (s.2 ++ s.3)
      (part_level p s.1 s.5) (level-append s.2 s.3 (others_level separator ps s.2 plain s.6)
      (space_level s.3 s.7)))))

  pub others_level : (separator : List ℕ) (ps : NamedParts) (text : List ℕ) → list_all (λ b. not (is_mark b)) separator ≡ true → SpellsOthers separator ps text → IsLevel text
  others_level separator no_parts text plain s = rw s record { unclosed = refl; level = refl }
  others_level separator (part p ps) text plain s =
      rw (s.8, others_regrouped s.0 separator s.1 s.2 s.3) (level-append s.0 (separator ++ (s.1 ++ (s.2 ++ s.3))) (space_level s.0 s.4)
      (level-append separator (s.1 ++ (s.2 ++ s.3)) (separator_level separator plain)
      (level-append s.1 (s.2 ++ s.3) (space_level s.1 s.5) (level-append s.2 s.3
      (part_level p s.2 s.6) (others_level separator ps s.3 plain s.7)))))

mutual
  part_rises : (p : NamedPart) (text : List ℕ) → SpellsPart p text → Rises (nesting_of p) text
  part_rises (name n) text s = no_rise text
  part_rises (seq ps) text s = group_rises (codes ",") ps text refl s
  part_rises (choice ps) text s = group_rises (codes "|") ps text refl s.1
  part_rises (opt p) text s = rw s.3 (rises_before (nesting_of p) s.0 (codes "?") (part_rises p s.0 s.2))
  part_rises (star p) text s = rw s.3 (rises_before (nesting_of p) s.0 (codes "*") (part_rises p s.0 s.2))
  part_rises (plus p) text s = rw s.3 (rises_before (nesting_of p) s.0 (codes "+") (part_rises p s.0 s.2))

  group_rises : (separator : List ℕ) (ps : NamedParts) (text : List ℕ) → list_all (λ b. not (is_mark b)) separator ≡ true → SpellsGroup separator ps text → Rises (suc (nesting_of_all ps)) text
  group_rises separator no_parts text plain s = absurd s
  group_rises separator (part p ps) text plain s =
      let behind = s.2 ++ s.3 in
      let first : Rises (nesting_of p) (s.1 ++ behind) = rises_before (nesting_of p) s.1 behind (part_rises p s.1 s.5) in
      let others : Rises (nesting_of_all ps) (s.1 ++ behind) = rises_behind (nesting_of_all ps) s.1
      behind (part_level p s.1 s.5) (rises_before (nesting_of_all ps) s.2 s.3
      (others_rise separator ps s.2 plain s.6)) in
      let all = rises_behind (max (nesting_of p) (nesting_of_all ps)) s.0 (s.1 ++ behind) (space_level s.0 s.4) (rises_to (nesting_of p) (nesting_of_all ps) (s.1 ++ behind) first others) in
      rw (s.8, group_regrouped s.0 s.1 s.2 s.3) (rises_in (max (nesting_of p) (nesting_of_all ps))
      ((s.0 ++ (s.1 ++ behind)) ++ codes ")") (rises_before (max (nesting_of p)
      (nesting_of_all ps)) (s.0 ++ (s.1 ++ behind)) (codes ")") all))

  others_rise : (separator : List ℕ) (ps : NamedParts) (text : List ℕ) → list_all (λ b. not (is_mark b)) separator ≡ true → SpellsOthers separator ps text → Rises (nesting_of_all ps) text
  others_rise separator no_parts text plain s = no_rise text
  others_rise separator (part p ps) text plain s =
      let first : Rises (nesting_of p) (s.2 ++ s.3) = rises_before (nesting_of p) s.2 s.3 (part_rises p s.2 s.6) in
      let others : Rises (nesting_of_all ps) (s.2 ++ s.3) = rises_behind (nesting_of_all ps) s.2 s.3 (part_level p s.2 s.6) (others_rise separator ps s.3 plain s.7) in
      let both = rises_to (nesting_of p) (nesting_of_all ps) (s.2 ++ s.3) first others in
      let n = max (nesting_of p) (nesting_of_all ps) in
      rw (s.8, others_regrouped s.0 separator s.1 s.2 s.3) (rises_behind n s.0 (separator
      ++ (s.1 ++ (s.2 ++ s.3))) (space_level s.0 s.4) (rises_behind n separator (s.1
      ++ (s.2 ++ s.3)) (separator_level separator plain) (rises_behind n s.1 (s.2 ++ s.3)
      (space_level s.1 s.5) both)))

not_false : (test : Bool) → test ≡ false → not test ≡ true
not_false test e = rw e refl

-- where no place is too deep, no group is
element_regrouped : (before n between spec after rest : List ℕ) → (codes "<!ELEMENT" ++ before ++ n
    ++ between ++ spec ++ after ++ codes ">") ++ rest ≡ codes "<!ELEMENT"
    ++ ((before ++ (n ++ (between ++ spec))) ++ (after ++ (codes ">" ++ rest)))
element_regrouped before n between spec after rest = simp append_assoc

deep_by : (n : List ℕ) (p : NamedPart) (place text rest : List ℕ) → place ≡ text ++ rest → (s : SpellsElement n (children p) text) → MAX_NESTING < nesting_of p → IsTooDeep place
deep_by n p place text rest whole s deep =
    let front : IsLevel s.before_name = space_level s.before_name s.space_before_name.space in
    let rises = rises_behind (nesting_of p) s.before_name (n ++ (s.before_spec ++ s.spec)) front (rises_behind (nesting_of p) n (s.before_spec ++ s.spec) (name_level n s.is_name)
    (rises_behind (nesting_of p) s.before_spec s.spec (space_level s.before_spec s.space_before_spec.space) (part_rises p s.spec s.is_spec.1))) in
    record {
      before = rises.before;
      rest = rises.rest ++ (s.after ++ (codes ">" ++ rest));
      whole = whole ∙ ap (λ t. t ++ rest) s.whole ∙ element_regrouped s.before_name n s.before_spec
          s.spec s.after rest ∙ ap (λ t. codes "<!ELEMENT"
          ++ (t ++ (s.after ++ (codes ">" ++ rest)))) rises.whole ∙ simp append_assoc;
      unclosed = not_false (is_one_of rises.before 62) rises.unclosed;
      deep = omega (arith, rises.deep, deep);
    }

shallow_model : (n : List ℕ) (model : NamedModel) (place text rest : List ℕ) → place ≡ text ++ rest → SpellsElement n model text → (IsTooDeep place → ⊥) → IsShallow model
shallow_model n empty place text rest whole s shallow = tt
shallow_model n any place text rest whole s shallow = tt
shallow_model n (mixed names) place text rest whole s shallow = tt
shallow_model n (children p) place text rest whole s shallow =
    elim (cases_order (nesting_of p) MAX_NESTING) [
      | inl same ↦ omega (arith, same)
      | inr (inl less) ↦ omega (arith, less)
      | inr (inr more) ↦ absurd (shallow (deep_by n p place text rest whole s more))
    ]

pub begins_shallow : (front : Bool) (place : List ℕ) (i : DtdItem) (rest : List ℕ) → StandsAt front place i rest → (IsTooDeep place → ⊥) → IsShallowItem i
begins_shallow front place text_declaration rest b shallow = tt
begins_shallow front place (element n model) rest b shallow = shallow_model n model place b.text rest b.whole b.spelled shallow
begins_shallow front place skipped rest b shallow = tt
begins_shallow front place comment rest b shallow = tt
begins_shallow front place instruction rest b shallow = tt
