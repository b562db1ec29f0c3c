-- An item that may stand says, with the bytes before it, what it leaves.
use Rattle.std.proofs.Common.{◌≡◌, ◌≢◌, ◌+◌, ℕ, suc, List, [], ◌∷◌, ◌++◌, Bool, true, false, ◌⊎◌, inl, inr, cond, length, Option, Some, None}
use Rattle.std.proofs.Common.{append-nil, append_assoc, refl, sym, ap, subst, ◌∙◌, arith}
use Rattle.std.specs.List.{list_all}
use Rattle.std.proofs.lemmas.Slice.Eq.{bytes_eq-Decides}
use Rattle.std.specs.Str.{bytes_eq}
use Rattle.pv_chars.specs.Spaces.{is_space, IsOptionalSpace}
use Rattle.pv_chars.specs.Names.{IsName}
use Rattle.pv_chars.specs.Texts.{joined}
use Rattle.pv_chars.specs.Units.{AllUnits, units_in}
use Rattle.pv_chars.specs.declared.errors.TextError.TheVariants.{BadChar}
use Rattle.pv_chars.proofs.UnitReading.{unit_or_unit_fault}
use Rattle.pv_tree.specs.Plain.{Tree, text_node, cdata_node, misc_node, forest_of}
use Rattle.pv_tree.specs.Attributes.{IsAttributes, IsKnownReference, IsCharacterData}
use Rattle.pv_tree.specs.Prolog.{IsMisc, IsDoctype, IsProlog}
use Rattle.pv_read.specs.Limits.{IsWithinDepth, IsDeepest}
use Rattle.pv_read.specs.Grammar.{SpellsNode, SpellsContent}
use Rattle.pv_read.specs.Items.{Item, xml_declaration, doctype, comment_or_instruction, cdata_section, start_tag, empty_tag, end_tag, text_run}
use Rattle.pv_read.specs.Items.{bytes_of, HasForm, HasKnownReferences, IsRunEnd, BeginsItem}
use Rattle.pv_read.specs.Left.{Open, PlainStage, at_front, before_doctype, behind_doctype, behind_misc, Left, in_prolog, in_content, in_epilog}
use Rattle.pv_read.specs.Left.{left_by, just_opened, closed_element, with_kid, joined_to, empty_element}
use Rattle.pv_read.specs.Kinds.{Kind, entity, mismatch, doctype_name, deep, Stands, IsMismatch, IsOtherDoctype, IsTooDeep, HasFault}
use Rattle.pv_read.proofs.DocumentFacts.{data_are_units, data_joined, pieces_are_units}
use Rattle.pv_read.proofs.Pieces.{nothing}
use Rattle.pv_read.proofs.AgreeInvariant.{IsPrologAt, prolog_at, with_misc, with_declaration, with_doctype, is_text, ends_in_text, IsProperKid}
use Rattle.pv_read.proofs.AgreeInvariant.{no_kids, kid_put, ends_in-put, closed_proper, within_less, InContent, InEpilog, Says, made_of_more}

-- whether each reference of an item is known is decided
abbrev pub KnownIsDecided : Type 0
KnownIsDecided = (i : Item) → HasForm i → HasKnownReferences i ⊎ (HasKnownReferences i → ⊥)

-- an item has none of the faults that an item that stands may have
pub record IsProper {M : Type 0} (most : Option ℕ) (root : List ℕ) (left : Left M) (i : Item) : Type 0 where
  pub known : HasKnownReferences i
  pub matches : IsMismatch left i → ⊥
  pub names : IsOtherDoctype root i → ⊥
  pub within : IsTooDeep most left i → ⊥

pub proper_item : {M : Type 0} {most : Option ℕ} {m : M} {root : List ℕ} {left next : Left M} {rest more : List ℕ} {i : Item} → KnownIsDecided → BeginsItem i rest more → left_by m left i ≡ Some next
    → ((kind : Kind) → HasFault most m root left rest kind → ⊥) → IsProper most root left i
proper_item {M} {most = most} {m = m} {root = root} {left = left} {next = next} {rest = rest} {more = more} {i = i} decided begins stands none = record {
  known = by (decided i begins.has_form);
  matches = λ is. none mismatch (at (IsMismatch left) is);
  names = λ is. none doctype_name (at (IsOtherDoctype root) is);
  within = λ is. none deep (at (IsTooDeep most left) is);
}
  where
    at : (P : Item → Type 0) → P i → Stands m left rest P
    at P is = record { item = i; more = more; next = next; begins = begins; may_stand = stands; has_property = is }

    by : HasKnownReferences i ⊎ (HasKnownReferences i → ⊥) → HasKnownReferences i
    by (inl is) = is
    by (inr unknown) = absurd (none entity (at (λ j. HasKnownReferences j → ⊥) unknown))

-- equality of names is decided
pub same_names : (x y : List ℕ) → ((x ≡ y → ⊥) → ⊥) → x ≡ y
same_names x y not_other = by (bytes_eq x y) refl
  where
    by : (b : Bool) → bytes_eq x y ≡ b → x ≡ y
    by true e = (bytes_eq-Decides x y).0 e
    by false e = absurd (not_other (λ same. let is = (bytes_eq-Decides x y).1 same in cc))

not_past : (most : Option ℕ) (n : ℕ) → (IsDeepest most n → ⊥) → IsWithinDepth most (suc n)
not_past None n none = tt
not_past (Some depth) n none = omega arith

white_run : (bytes : List ℕ) → HasForm (text_run bytes) → list_all is_space bytes ≡ true → IsMisc bytes
white_run bytes form white = inr record { some = form.some; space = white }

-- what is said of one value is said of its equal
said : {M : Type 0} (most : Option ℕ) (m : M) (root done rest : List ℕ) (x next : Left M) → Some x ≡ Some next → Says most m root done x rest → Says most m root done next rest
said most m root done rest x next e s = let same : x ≡ next = cc in subst (λ l. Says most m root done l rest) same s

-- ---- in the prolog
more_prolog : {M : Type 0} (most : Option ℕ) (m : M) (root done before bytes more : List ℕ)
    (stage : PlainStage) (next : Left M) → Some (in_prolog stage (before ++ bytes)) ≡ Some next →
    IsPrologAt root stage (before ++ bytes) → done ≡ before
    → Says most m root (done ++ bytes) next more
more_prolog most m root done before bytes more stage next e is whole = said most m root (done ++ bytes) more (in_prolog stage (before ++ bytes)) next e (is, ap (λ front. front ++ bytes) whole)

declaration_stands : {M : Type 0} (most : Option ℕ) (m : M) (root done before bytes more : List ℕ)
    (stage : PlainStage) (next : Left M) → IsPrologAt root stage before → done ≡ before →
    HasForm (xml_declaration bytes)
    → left_by m (in_prolog stage before) (xml_declaration bytes) ≡ Some next → Says most m root (done ++ bytes) next more
declaration_stands most m root done before bytes more at_front next prolog whole form e =
    more_prolog most m root done before bytes more before_doctype next e
    (with_declaration before bytes prolog form) whole
declaration_stands most m root done before bytes more before_doctype next prolog whole form e = cc
declaration_stands most m root done before bytes more behind_doctype next prolog whole form e = cc

doctype_stands : {M : Type 0} (most : Option ℕ) (m : M) (root done before name bytes more : List ℕ)
    (stage : PlainStage) (next : Left M) → IsPrologAt root stage before → done ≡ before →
    HasForm (doctype name bytes)
    → left_by m (in_prolog stage before) (doctype name bytes) ≡ Some next → name ≡ root → Says most m root (done ++ bytes) next more
doctype_stands most m root done before name bytes more at_front next prolog whole form e same =
    more_prolog most m root done before bytes more behind_doctype next e (with_doctype root at_front before bytes refl prolog (subst (λ n. IsDoctype n bytes) same form)) whole
doctype_stands most m root done before name bytes more before_doctype next prolog whole form e same =
    more_prolog most m root done before bytes more behind_doctype next e (with_doctype root before_doctype before bytes refl prolog (subst (λ n. IsDoctype n bytes) same form)) whole
doctype_stands most m root done before name bytes more behind_doctype next prolog whole form e same = cc

white_stands : {M : Type 0} (most : Option ℕ) (m : M) (root done before bytes more : List ℕ)
    (stage : PlainStage) (next : Left M) → IsPrologAt root stage before → done ≡ before →
    HasForm (text_run bytes)
    → left_by m (in_prolog stage before) (text_run bytes) ≡ Some next → Says most m root (done ++ bytes) next more
white_stands {M} most m root done before bytes more stage next prolog whole form e = by (list_all is_space bytes) refl e
  where
    by : (b : Bool) → list_all is_space bytes ≡ b → cond b (Some (in_prolog (behind_misc stage) (before ++ bytes))) None ≡ Some next → Says most m root (done ++ bytes) next more
    by true is e = more_prolog most m root done before bytes more (behind_misc stage) next e (with_misc root stage before bytes prolog (white_run bytes form is)) whole
    by false is e = cc

open_first : {M : Type 0} (most : Option ℕ) (m : M) (root done before name attrs more : List ℕ) →
    IsProlog root before → done ≡ before → IsName name → IsAttributes IsKnownReference attrs →
    IsWithinDepth most 1
    → InContent most m root (done ++ bytes_of (start_tag name attrs)) before (just_opened {M = M} name attrs) [] more
open_first {M} most m root done before name attrs more prolog whole is_name are_attrs within = record {
  opens = bytes_of (start_tag name attrs);
  is_prolog = prolog;
  spells = ([], [], refl, is_name, are_attrs, within, no_kids most m 1, sym (append-nil (bytes_of (start_tag name attrs))));
  whole = ap (λ front. front ++ bytes_of (start_tag name attrs)) whole;
  run = λ e. cc;
}

-- an empty-element tag is an element
empty_spelled : {M : Type 0} (m : M) (name attrs : List ℕ) → IsName name → IsAttributes IsKnownReference attrs → SpellsNode (empty_element m name attrs) (bytes_of (empty_tag name attrs))
empty_spelled m name attrs is_name are_attrs = (is_name, are_attrs, refl, sym (simp append_assoc refl))

empty_proper : {M : Type 0} (most : Option ℕ) (m : M) (level : ℕ) (name attrs : List ℕ) → IsWithinDepth most (suc level) → IsProperKid most m level (empty_element m name attrs)
empty_proper most m level name attrs within = record { shallow = within_less most (level + 1) (suc level) (omega arith) within; marks = refl }

empty_root : {M : Type 0} (most : Option ℕ) (m : M) (root done before name attrs : List ℕ) →
    IsProlog root before → done ≡ before → IsName name → IsAttributes IsKnownReference attrs →
    IsWithinDepth most 1
    → InEpilog most m root (done ++ bytes_of (empty_tag name attrs)) before (empty_element m name attrs) []
empty_root most m root done before name attrs prolog whole is_name are_attrs within = record {
  element = bytes_of (empty_tag name attrs);
  is_prolog = prolog;
  is_element = tt;
  is_root = empty_spelled m name attrs is_name are_attrs;
  proper = empty_proper most m 0 name attrs within;
  is_epilog = nothing IsMisc;
  whole = ap (λ front. front ++ bytes_of (empty_tag name attrs)) whole ∙ ap (λ rest. before ++ rest) (sym (append-nil (bytes_of (empty_tag name attrs))));
}

pub step_in_prolog : {M : Type 0} (most : Option ℕ) (m : M) (root done before rest more : List ℕ) (stage : PlainStage) (next : Left M) (i : Item) → Says most m root done (in_prolog stage before) rest
    → BeginsItem i rest more → left_by m (in_prolog stage before) i ≡ Some next → IsProper {M = M} most root (in_prolog stage before) i → Says most m root (done ++ bytes_of i) next more
step_in_prolog most m root done before rest more stage next (xml_declaration bytes) (prolog, whole)
    begins stands proper = declaration_stands most m root done before bytes more stage next prolog
    whole begins.has_form stands
step_in_prolog most m root done before rest more stage next (doctype name bytes) (prolog, whole) begins stands proper =
    doctype_stands most m root done before name bytes more stage next prolog whole begins.has_form stands (same_names name root proper.names)
step_in_prolog most m root done before rest more stage next (comment_or_instruction bytes) (prolog, whole) begins stands proper =
    more_prolog most m root done before bytes more (behind_misc stage) next stands (with_misc root stage before bytes prolog (inl begins.has_form)) whole
step_in_prolog most m root done before rest more stage next (cdata_section bytes) (prolog, whole) begins stands proper = cc
step_in_prolog most m root done before rest more stage next (start_tag name attrs) (prolog, whole) begins stands proper =
    let deep = not_past most 0 (λ past. proper.within (refl, past)) in
    said most m root (done ++ bytes_of (start_tag name attrs)) more (in_content before (just_opened name attrs) []) next stands
    (open_first most m root done before name attrs more (prolog_at root stage before prolog) whole begins.has_form.0 proper.known deep)
step_in_prolog most m root done before rest more stage next (empty_tag name attrs) (prolog, whole) begins stands proper =
    let deep = not_past most 0 (λ past. proper.within (refl, past)) in
    said most m root (done ++ bytes_of (empty_tag name attrs)) more (in_epilog before (empty_element m name attrs) []) next stands
    (empty_root most m root done before name attrs (prolog_at root stage before prolog) whole begins.has_form.0 proper.known deep)
step_in_prolog most m root done before rest more stage next (end_tag name gap) (prolog, whole) begins stands proper = cc
step_in_prolog most m root done before rest more stage next (text_run bytes) (prolog, whole) begins
    stands proper = white_stands most m root done before bytes more stage next prolog whole
    begins.has_form stands

-- ---- in the root
-- a text run doesn't stand where one has ended
first_unit : (pieces : List (List ℕ)) (rest : List ℕ) → AllUnits pieces → joined pieces ≢ [] → IsRunEnd (joined pieces ++ rest) → ⊥
first_unit [] rest all some ends = some refl
first_unit (u ∷ us) rest all some (inl e) = some (nothing_left (u ++ joined us) rest e)
  where
    nothing_left : (a b : List ℕ) → a ++ b ≡ [] → a ≡ []
    nothing_left [] b e = refl
    nothing_left (x ∷ xs) b e = cc
first_unit (u ∷ us) rest all some (inr less) =
    unit_or_unit_fault ((u ++ joined us) ++ rest) u (joined us ++ rest) 0 (BadChar 0) all.0 (append_assoc u (joined us) rest) (refl, inl less)

pub no_run_end : (bytes rest : List ℕ) → IsCharacterData IsKnownReference bytes → IsRunEnd (bytes ++ rest) → ⊥
no_run_end bytes rest chars ends =
    let pieces = chars.are_pieces.pieces in
    let whole = chars.are_pieces.whole in
    first_unit pieces rest (pieces_are_units pieces chars.are_pieces.are_pieces) (λ none. chars.some (whole ∙ none)) (subst (λ b. IsRunEnd (b ++ rest)) whole ends)

-- one more kid of the innermost element
kid_stands : {M : Type 0} (most : Option ℕ) (m : M) (root done before : List ℕ) (inner : Open M)
    (outer : List (Open M)) (rest more : List ℕ) (t : Tree M) (first : List ℕ) →
    InContent most m root done before inner outer rest
    → SpellsNode t first → IsProperKid most m (suc (length outer)) t → (is_text t ≡ true → ends_in_text inner.kids ≡ false) → (is_text t ≡ true → IsRunEnd more)
    → InContent most m root (done ++ first) before (with_kid inner t) outer more
kid_stands most m root done before inner outer rest more t first said node proper follows run =
    let s = said.spells in
    record {
      opens = said.opens ++ first;
      is_prolog = said.is_prolog;
      spells = (s.0, s.1 ++ first, s.2, s.3, s.4, s.5, kid_put t first s.6 node proper follows, ap (λ b. b ++ first) s.7 ∙ simp append_assoc refl);
      whole = ap (λ b. b ++ first) said.whole ∙ append_assoc before said.opens first;
      run = λ e. run (sym (ends_in-put inner.kids t) ∙ e);
    }

no_text_stands : {M : Type 0} (most : Option ℕ) (m : M) (root done before : List ℕ) (inner : Open M)
    (outer : List (Open M)) (rest more : List ℕ) (t : Tree M) (first : List ℕ) →
    InContent most m root done before inner outer rest
    → SpellsNode t first → IsProperKid most m (suc (length outer)) t → is_text t ≡ false → InContent most m root (done ++ first) before (with_kid inner t) outer more
no_text_stands most m root done before inner outer rest more t first said node proper other =
    kid_stands most m root done before inner outer rest more t first said node proper (λ is. cc) (λ is. let no_text : true ≡ false = sym is ∙ other in cc)

text_stands : {M : Type 0} (most : Option ℕ) (m : M) (root done before : List ℕ) (inner : Open M)
    (outer : List (Open M)) (rest more bytes : List ℕ) → InContent most m root done before inner outer rest
    → IsCharacterData IsKnownReference bytes → rest ≡ bytes ++ more → IsRunEnd more →
    IsWithinDepth most (suc (length outer)) → InContent most m root (done ++ bytes) before
    (with_kid inner (text_node (units_in bytes))) outer more
text_stands most m root done before inner outer rest more bytes said chars whole ends within =
    kid_stands most m root done before inner outer rest more (text_node (units_in bytes)) bytes said
    (chars, data_are_units bytes chars, sym (data_joined bytes chars))
    (record {
      shallow = within_less most (suc (length outer) + 0) (suc (length outer))
          (omega arith) within;
      marks = refl;
    }) (λ is. by (ends_in_text inner.kids) refl) (λ is. ends)
  where
    by : (b : Bool) → ends_in_text inner.kids ≡ b → ends_in_text inner.kids ≡ false
    by true e = absurd (no_run_end bytes more chars (subst IsRunEnd whole (said.run e)))
    by false e = e

open_inner : {M : Type 0} (most : Option ℕ) (m : M) (root done before : List ℕ) (inner : Open M)
    (outer : List (Open M)) (rest more name attrs : List ℕ) →
    InContent most m root done before inner outer rest
    → IsName name → IsAttributes IsKnownReference attrs →
    IsWithinDepth most (suc (suc (length outer))) →
    InContent most m root (done ++ bytes_of (start_tag name attrs)) before
    (just_opened name attrs) (inner ∷ outer) more
open_inner most m root done before inner outer rest more name attrs said is_name are_attrs within = record {
  opens = said.opens ++ bytes_of (start_tag name attrs);
  is_prolog = said.is_prolog;
  spells = (said.opens, [], said.spells, is_name, are_attrs, within, no_kids most m (suc (suc (length outer))), ap (λ b. said.opens ++ b) (sym (append-nil (bytes_of (start_tag name attrs)))));
  whole = ap (λ b. b ++ bytes_of (start_tag name attrs)) said.whole ∙ append_assoc before said.opens (bytes_of (start_tag name attrs));
  run = λ e. cc;
}

-- an end tag after the kids of the innermost element
closed_spelled : {M : Type 0} (m : M) (o : Open M) (content gap : List ℕ) → IsName o.name → IsAttributes IsKnownReference o.attrs → IsOptionalSpace gap → SpellsContent (forest_of o.kids) content
    → SpellsNode (closed_element m o gap) (bytes_of (start_tag o.name o.attrs) ++ (content ++ bytes_of (end_tag o.name gap)))
closed_spelled m o content gap is_name are_attrs white spells = (content, is_name, are_attrs, white, spells, sym (simp append_assoc refl))

close_stands : {M : Type 0} (most : Option ℕ) (m : M) (root done before : List ℕ) (inner : Open M)
    (outer : List (Open M)) (rest more gap : List ℕ) → InContent most m root done before inner outer
    rest → IsOptionalSpace gap
    → Says most m root (done ++ bytes_of (end_tag inner.name gap)) (joined_to before outer (closed_element m inner gap)) more
close_stands most m root done before inner [] rest more gap said white =
    let s = said.spells in
    let none : s.0 ≡ [] = s.2 in
    record {
      element = bytes_of (start_tag inner.name inner.attrs) ++ (s.1 ++ bytes_of (end_tag inner.name gap));
      is_prolog = said.is_prolog;
      is_element = tt;
      is_root = closed_spelled m inner s.1 gap s.3 s.4 white s.6.spells;
      proper = closed_proper most m 0 inner.kids inner.name inner.attrs gap s.5 s.6.proper;
      is_epilog = nothing IsMisc;
      whole = ap (λ b. b ++ bytes_of (end_tag inner.name gap)) (said.whole ∙ ap (λ b. before ++ b)
          (s.7 ∙ ap (λ b. b ++ (bytes_of (start_tag inner.name inner.attrs) ++ s.1)) none))
          ∙ simp (append_assoc, append-nil) refl;
    }
close_stands most m root done before inner (o ∷ outer) rest more gap said white =
    let s = said.spells in
    let element = bytes_of (start_tag inner.name inner.attrs) ++ (s.1 ++ bytes_of (end_tag inner.name gap)) in
    let above = s.2 in
    let proper = closed_proper most m (suc (length outer)) inner.kids inner.name inner.attrs gap s.5 s.6.proper in
    let node = closed_spelled m inner s.1 gap s.3 s.4 white s.6.spells in
    record {
      opens = s.0 ++ element;
      is_prolog = said.is_prolog;
      spells = (
        above.0,
        above.1 ++ element,
        above.2,
        above.3,
        above.4,
        above.5,
        kid_put (closed_element m inner gap) element above.6 node proper (λ is. cc),
        ap (λ b. b ++ element) above.7 ∙ simp append_assoc refl,
      );
      whole = ap (λ b. b ++ bytes_of (end_tag inner.name gap)) (said.whole ∙ ap (λ b. before ++ b) s.7) ∙ simp append_assoc refl;
      run = λ e. let other : is_text (closed_element m inner gap) ≡ true = sym (ends_in-put o.kids (closed_element m inner gap)) ∙ e in cc;
    }

pub step_in_content : {M : Type 0} (most : Option ℕ) (m : M) (root done before : List ℕ)
    (inner : Open M) (outer : List (Open M)) (rest more : List ℕ) (next : Left M) (i : Item) →
    InContent most m root done before inner outer rest
    → BeginsItem i rest more → left_by m (in_content before inner outer) i ≡ Some next → IsProper most root (in_content before inner outer) i → Says most m root (done ++ bytes_of i) next more
step_in_content most m root done before inner outer rest more next (xml_declaration bytes) prior begins stands proper = cc
step_in_content most m root done before inner outer rest more next (doctype name bytes) prior begins stands proper = cc
step_in_content most m root done before inner outer rest more next (comment_or_instruction bytes) prior begins stands proper =
    let within = prior.spells.5 in
    said most m root (done ++ bytes) more (in_content before (with_kid inner (misc_node bytes)) outer) next stands
    (no_text_stands most m root done before inner outer rest more (misc_node bytes) bytes prior
    (begins.has_form, refl)
    (record {
      shallow = within_less most (suc (length outer) + 0) (suc (length outer))
          (omega arith) within;
      marks = refl;
    }) refl)
step_in_content most m root done before inner outer rest more next (cdata_section bytes) prior begins stands proper =
    let within = prior.spells.5 in
    said most m root (done ++ bytes) more (in_content before (with_kid inner (cdata_node bytes)) outer) next stands
    (no_text_stands most m root done before inner outer rest more (cdata_node bytes) bytes prior
    (begins.has_form, refl)
    (record {
      shallow = within_less most (suc (length outer) + 0) (suc (length outer))
          (omega arith) within;
      marks = refl;
    }) refl)
step_in_content most m root done before inner outer rest more next (start_tag name attrs) prior begins stands proper =
    let deep = not_past most (suc (length outer)) (λ past. proper.within (refl, past)) in
    said most m root (done ++ bytes_of (start_tag name attrs)) more (in_content before (just_opened name attrs) (inner ∷ outer)) next stands
    (open_inner most m root done before inner outer rest more name attrs prior begins.has_form.0 proper.known deep)
step_in_content most m root done before inner outer rest more next (empty_tag name attrs) prior begins stands proper =
    let deep = not_past most (suc (length outer)) (λ past. proper.within (refl, past)) in
    said most m root (done ++ bytes_of (empty_tag name attrs)) more (in_content before (with_kid inner (empty_element m name attrs)) outer) next stands
    (no_text_stands most m root done before inner outer rest more (empty_element m name attrs)
    (bytes_of (empty_tag name attrs)) prior (empty_spelled m name attrs begins.has_form.0
    proper.known) (empty_proper most m (suc (length outer)) name attrs deep) refl)
step_in_content most m root done before inner outer rest more next (end_tag name gap) prior begins stands proper =
    let same : name ≡ inner.name = same_names name inner.name proper.matches in
    said most m root (done ++ bytes_of (end_tag name gap)) more (joined_to before outer (closed_element m inner gap)) next stands
    (subst (λ n. Says most m root (done ++ bytes_of (end_tag n gap)) (joined_to before outer
    (closed_element m inner gap)) more) (sym same) (close_stands most m root done before inner
    outer rest more gap prior begins.has_form.1))
step_in_content most m root done before inner outer rest more next (text_run bytes) prior begins stands proper =
    said most m root (done ++ bytes) more (in_content before (with_kid inner (text_node (units_in bytes))) outer) next stands
    (text_stands most m root done before inner outer rest more bytes prior proper.known begins.whole begins.ends_well prior.spells.5)

-- ---- after the root
misc_stands : {M : Type 0} (most : Option ℕ) (m : M) (root done before after misc : List ℕ)
    (t : Tree M) → InEpilog most m root done before t after → IsMisc misc →
    InEpilog most m root (done ++ misc) before t (after ++ misc)
misc_stands most m root done before after misc t prior is = record {
  element = prior.element;
  is_prolog = prior.is_prolog;
  is_element = prior.is_element;
  is_root = prior.is_root;
  proper = prior.proper;
  is_epilog = made_of_more IsMisc after misc prior.is_epilog is;
  whole = ap (λ b. b ++ misc) prior.whole ∙ simp append_assoc refl;
}

white_behind : {M : Type 0} (most : Option ℕ) (m : M) (root done before after bytes more : List ℕ) (t : Tree M) (next : Left M) → InEpilog most m root done before t after → HasForm (text_run bytes)
    → left_by m (in_epilog before t after) (text_run bytes) ≡ Some next → Says most m root (done ++ bytes) next more
white_behind {M} most m root done before after bytes more t next prior form e = by (list_all is_space bytes) refl e
  where
    by : (b : Bool) → list_all is_space bytes ≡ b → cond b (Some (in_epilog before t (after ++ bytes))) None ≡ Some next → Says most m root (done ++ bytes) next more
    by true is e = said most m root (done ++ bytes) more (in_epilog before t (after ++ bytes)) next e (misc_stands most m root done before after bytes t prior (white_run bytes form is))
    by false is e = cc

pub step_in_epilog : {M : Type 0} (most : Option ℕ) (m : M) (root done before after rest more : List ℕ) (t : Tree M) (next : Left M) (i : Item) → InEpilog most m root done before t after
    → BeginsItem i rest more → left_by m (in_epilog before t after) i ≡ Some next → Says most m root (done ++ bytes_of i) next more
step_in_epilog most m root done before after rest more t next (xml_declaration bytes) prior begins stands = cc
step_in_epilog most m root done before after rest more t next (doctype name bytes) prior begins stands = cc
step_in_epilog most m root done before after rest more t next (comment_or_instruction bytes) prior begins stands =
    said most m root (done ++ bytes) more (in_epilog before t (after ++ bytes)) next stands (misc_stands most m root done before after bytes t prior (inl begins.has_form))
step_in_epilog most m root done before after rest more t next (cdata_section bytes) prior begins stands = cc
step_in_epilog most m root done before after rest more t next (start_tag name attrs) prior begins stands = cc
step_in_epilog most m root done before after rest more t next (empty_tag name attrs) prior begins stands = cc
step_in_epilog most m root done before after rest more t next (end_tag name gap) prior begins stands = cc
step_in_epilog most m root done before after rest more t next (text_run bytes) prior begins stands = white_behind most m root done before after bytes more t next prior begins.has_form stands

-- what the items so far say of what they leave, this one says with them
pub step : {M : Type 0} (most : Option ℕ) (m : M) (root done rest more : List ℕ)
    (left next : Left M) (i : Item) → Says most m root done left rest → BeginsItem i rest more →
    left_by m left i ≡ Some next → IsProper most root left i
    → Says most m root (done ++ bytes_of i) next more
step most m root done rest more (in_prolog stage before) next i prior begins stands proper = step_in_prolog most m root done before rest more stage next i prior begins stands proper
step most m root done rest more (in_content before inner outer) next i prior begins stands proper = step_in_content most m root done before inner outer rest more next i prior begins stands proper
step most m root done rest more (in_epilog before t after) next i prior begins stands proper = step_in_epilog most m root done before after rest more t next i prior begins stands
