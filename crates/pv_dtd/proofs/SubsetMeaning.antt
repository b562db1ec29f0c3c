-- What stands after some items means a DTD exactly where it spells items that are ruled after these.
use Rattle.std.proofs.Common.{◌≡◌, inl, inr, ℕ, List, [], ◌∷◌, ◌++◌, codes, Bool, true, false, not, refl, sym, ap, ◌∙◌, append_assoc, append-nil, subst}
use Rattle.std.proofs.lemmas.Bool.{and_parts}
use Rattle.std.specs.List.{list_all}
use Rattle.pv_chars.specs.Spaces.{is_space, IsOptionalSpace}
use Rattle.pv_dtd.specs.Plain.{PlainDtd}
use Rattle.pv_dtd.specs.Items.{DtdItem, text_declaration, element, skipped, comment, instruction}
use Rattle.pv_dtd.specs.Spelling.{StandsAt, Spells, MayStand, IsSkippedWord}
use Rattle.pv_dtd.specs.Kinds.{nesting}
use Rattle.pv_dtd.specs.Numbering.{dtd_of_items}
use Rattle.pv_dtd.specs.Meaning.{is_place, HasPlace, is_front, Outcome, is_dtd, DtdRestMeans, ends, item, fault}
use Rattle.pv_dtd.specs.DtdTexts.{SpellsDeclarations, SpellsSubset, plain, behind_declaration}
use Rattle.pv_dtd.specs.SoFar.{AreRuled}
use Rattle.pv_chars.proofs.CharFacts.{comment_opens, instruction_opens}
use Rattle.pv_dtd.proofs.GroupDepths.{begins_shallow}
use Rattle.pv_dtd.proofs.ItemsSoFar.{ruled_more}
use Rattle.pv_dtd.proofs.FaultlessItems.{keeps, ruled-left, no_fault}

-- items spell the rest, of which the place is the front of the text or not
abbrev pub SpellsRest : Bool → List DtdItem → List ℕ → Type 0
SpellsRest front [] text = IsOptionalSpace text
SpellsRest front (i ∷ items) text =
    (space : List ℕ) × (first : List ℕ) × (others : List ℕ) ×
    IsOptionalSpace space × MayStand front i × Spells i first × SpellsDeclarations items others ×
    (text ≡ space ++ first ++ others)

to_declarations : (front : Bool) (items : List DtdItem) (text : List ℕ) → front ≡ false → SpellsRest front items text → SpellsDeclarations items text
to_declarations front [] text e s = s
to_declarations front (i ∷ items) text e s = (s.0, s.1, s.2, s.3, subst (λ f. MayStand f i) e s.4, s.5, s.6, s.7)

from_declarations : (front : Bool) (items : List DtdItem) (text : List ℕ) → front ≡ false → SpellsDeclarations items text → SpellsRest front items text
from_declarations front [] text e s = s
from_declarations front (i ∷ items) text e s = (s.0, s.1, s.2, s.3, subst (λ f. MayStand f i) (sym e) s.4, s.5, s.6, s.7)

not_front : (before : List DtdItem) (i : DtdItem) (rest : List ℕ) → is_front (before ++ i ∷ []) rest ≡ false
not_front [] i rest = refl
not_front (j ∷ js) i rest = refl

-- items that are read from the rest
pub record Read (before : List DtdItem) (rest : List ℕ) (g : PlainDtd) : Type 0 where
  pub items : List DtdItem
  pub spelled : SpellsRest (is_front before rest) items rest
  pub ruled : AreRuled (before ++ items)
  pub is_dtd : g ≡ dtd_of_items (before ++ items)

dtd_is : (a b : PlainDtd) → (is_dtd a) ≡ (is_dtd b) → b ≡ a
dtd_is a b e = cc

pub read : {before : List DtdItem} {rest : List ℕ} {o : Outcome} → DtdRestMeans before rest o → (g : PlainDtd) → o ≡ is_dtd g → AreRuled before → Read before rest g
read {before} (ends s) g e r = record {
  items = [];
  spelled = s;
  ruled = subst AreRuled (sym (append-nil before)) r;
  is_dtd = dtd_is (dtd_of_items before) g e ∙ ap dtd_of_items (sym (append-nil before));
}
read {before} {rest} (item {place} {more} {i} at begins none m) g e r =
    let shallow = begins_shallow (is_front before rest) place i more begins (none nesting) in
    let behind = read m g e (ruled_more before i r begins shallow (keeps before (is_front before rest) place i more begins none)) in
    record {
      items = i ∷ behind.items;
      spelled = (
        at.space,
        begins.text,
        more,
        at.is_space,
        begins.may_stand,
        begins.spelled,
        to_declarations _ behind.items more (not_front before i more) behind.spelled,
        at.whole
            ∙ ap (λ t. at.space ++ t) begins.whole ∙ sym (append_assoc at.space begins.text more),
      );
      ruled = subst AreRuled (append_assoc before (i ∷ []) behind.items) behind.ruled;
      is_dtd = behind.is_dtd ∙ ap dtd_of_items (append_assoc before (i ∷ []) behind.items);
    }
read (fault at f) g e r = cc

-- an item begins with no white space
pub item_is_place : (i : DtdItem) (text rest : List ℕ) → Spells i text → is_place (text ++ rest) ≡ true
item_is_place text_declaration text rest s = rw s.whole refl
item_is_place (element n m) text rest s = rw s.whole refl
item_is_place skipped text rest s = by s.word s.is_word s.whole
  where
    by : (word : List ℕ) → IsSkippedWord word → text ≡ word ++ s.before ++ s.inside ++ codes ">" → is_place (text ++ rest) ≡ true
    by word (inl is) whole = rw (whole, is) refl
    by word (inr (inl is)) whole = rw (whole, is) refl
    by word (inr (inr is)) whole = rw (whole, is) refl
item_is_place comment text rest s = rw (comment_opens text s).1 refl
item_is_place instruction text rest s = rw (instruction_opens text s).1 refl

pub means : (items before : List DtdItem) (rest : List ℕ) →
    SpellsRest (is_front before rest) items rest → AreRuled (before ++ items) →
    DtdRestMeans before rest (is_dtd (dtd_of_items (before ++ items)))
means [] before rest s r = subst (λ is. DtdRestMeans before rest (is_dtd (dtd_of_items is))) (sym (append-nil before)) (ends s)
means (i ∷ items) before rest s r =
    let place = s.1 ++ s.2 in
    let grouped = append_assoc before (i ∷ []) items in
    let all : AreRuled ((before ++ i ∷ []) ++ items) = subst AreRuled (sym grouped) r in
    let at : HasPlace rest place = record { space = s.0; is_space = s.3; whole = s.7 ∙ append_assoc s.0 s.1 s.2; is_place = item_is_place i s.1 s.2 s.5 } in
    let begins : StandsAt (is_front before rest) place i s.2 = record { text = s.1; spelled = s.5; may_stand = s.4; whole = refl } in
    let none = no_fault before i (ruled-left (before ++ i ∷ []) items all) (is_front before rest) place s.2 begins in
    let behind = means items (before ++ i ∷ []) s.2 (from_declarations _ items s.2 (not_front before i s.2) s.6) all in
    subst (λ is. DtdRestMeans before rest (is_dtd (dtd_of_items is))) grouped (item at begins none behind)

-- at the front of a text
no_space_before : (space others : List ℕ) → IsOptionalSpace space → is_place (space ++ others) ≡ true → space ≡ []
no_space_before [] others s e = refl
no_space_before (b ∷ bs) others s e = let white = (and_parts (is_space b) (list_all is_space bs) s).0 in let black = ap not white in cc

pub to_subset : (items : List DtdItem) (rest : List ℕ) → SpellsRest (is_place rest) items rest → SpellsSubset items rest
to_subset [] rest s = plain s
to_subset (element n m ∷ items) rest s = plain s
to_subset (skipped ∷ items) rest s = plain s
to_subset (comment ∷ items) rest s = plain s
to_subset (instruction ∷ items) rest s = plain s
to_subset (text_declaration ∷ items) rest s =
    let grouped = s.7 ∙ append_assoc s.0 s.1 s.2 in
    let none = no_space_before s.0 (s.1 ++ s.2) s.3 (ap is_place (sym grouped) ∙ s.4) in
    behind_declaration s.1 s.2 items refl s.5 s.6 (grouped ∙ ap (λ t. t ++ (s.1 ++ s.2)) none)

from_plain : (front : Bool) (items : List DtdItem) (text : List ℕ) → SpellsDeclarations items text → SpellsRest front items text
from_plain front [] text s = s
from_plain front (element n m ∷ items) text s = s
from_plain front (skipped ∷ items) text s = s
from_plain front (comment ∷ items) text s = s
from_plain front (instruction ∷ items) text s = s
from_plain front (text_declaration ∷ items) text s = let never = s.4 in cc

pub from_subset : (items : List DtdItem) (rest : List ℕ) → SpellsSubset items rest → SpellsRest (is_place rest) items rest
from_subset items rest (plain s) = from_plain (is_place rest) items rest s
from_subset items rest (behind_declaration first others more e is s whole) =
    subst (λ is. SpellsRest (is_place rest) is rest) (sym e) ([], first, others, refl, ap is_place whole ∙ item_is_place text_declaration first others is, is, s, whole)
