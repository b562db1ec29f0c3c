-- The text of the drill's DTD, production by production.
use Rattle.std.specs.Prelude.{codes}
use Rattle.std.proofs.Common.{List, [], arith, get_or, ap, inl, inr, length, refl, true, ℕ, ◌++◌, ◌∷◌, ◌≡◌}
use Rattle.std.specs.List.{list_all}
use lib.Utf8.{encode, encodes}
use Rattle.pv_chars.specs.Characters.{is_name_char, is_name_start}
use Rattle.pv_chars.specs.Names.{IsName}
use Rattle.pv_chars.specs.Spaces.{IsSpace, is_space}
use Rattle.pv_dtd.specs.DtdTexts.{IsDtdText, KeepsLimits, SpellsDeclarations, plain}
use Rattle.pv_dtd.specs.Items.{DtdItem, NamedModel, children, choice, element, empty, mixed, name, no_parts, opt, part, plus, seq, star}
use Rattle.pv_chars.specs.ByteOrderMark.{BYTE_ORDER_MARK, unmarked}
use Rattle.pv_dtd.specs.Plain.{parts_in_models}
use Rattle.pv_dtd.specs.Spelling.{SpellsElement, SpellsModel}
use Rattle.pv_drill.specs.Drill.{DRILL_DTD}
use Rattle.law_missing.specs.Dtds.{sections_dtd}

-- names in ASCII
pub name_of : (first : ℕ) (others : List ℕ) → is_name_start first ≡ true →
    list_all is_name_char others ≡ true → first ∷ others ≡ encode first ++ others →
    others ≡ encodes others → IsName (first ∷ others)
name_of first others start chars whole spelled =
    record { first = first; others = others; is_start = start; are_name_chars = record { codes = others; pass = chars; spelled = spelled }; whole = whole }

pub doc_named : IsName (codes "doc")
unfolding encode
doc_named = name_of 100 (codes "oc") refl refl refl refl

pub head_named : IsName (codes "head")
unfolding encode
head_named = name_of 104 (codes "ead") refl refl refl refl

pub sec_named : IsName (codes "sec")
unfolding encode
sec_named = name_of 115 (codes "ec") refl refl refl refl

title_named : IsName (codes "title")
unfolding encode
title_named = name_of 116 (codes "itle") refl refl refl refl

pub p_named : IsName (codes "p")
unfolding encode
p_named = name_of 112 [] refl refl refl refl

em_named : IsName (codes "em")
unfolding encode
em_named = name_of 101 (codes "m") refl refl refl refl

pub br_named : IsName (codes "br")
unfolding encode
br_named = name_of 98 (codes "r") refl refl refl refl

list_named : IsName (codes "list")
unfolding encode
list_named = name_of 108 (codes "ist") refl refl refl refl

item_named : IsName (codes "item")
unfolding encode
item_named = name_of 105 (codes "tem") refl refl refl refl

one_blank : IsSpace (codes " ")
one_blank = record { some = λ e. cc; space = refl }

-- a declaration with single blanks
abbrev declaration : List ℕ → List ℕ → List ℕ
declaration x spec = codes "<!ELEMENT" ++ codes " " ++ x ++ codes " " ++ spec ++ [] ++ codes ">"

declares : (x spec : List ℕ) (model : NamedModel) → IsName x → SpellsModel model spec → SpellsElement x model (declaration x spec)
declares x spec model named is = record {
  before_name = codes " ";
  before_spec = codes " ";
  spec = spec;
  after = [];
  space_before_name = one_blank;
  is_name = named;
  space_before_spec = one_blank;
  is_spec = is;
  space_after = refl;
  whole = refl;
}

-- the content models
abbrev doc_named_model : NamedModel
doc_named_model = children (seq (part (name (codes "head")) (part (plus (name (codes "sec"))) no_parts)))

abbrev sec_named_model : NamedModel
sec_named_model = children (seq (part (opt (name (codes "title"))) (part (star (choice (part (name (codes "p")) (part (name (codes "list")) no_parts)))) no_parts)))

abbrev list_named_model : NamedModel
list_named_model = children (seq (part (name (codes "item")) (part (plus (name (codes "item"))) no_parts)))

abbrev item_named_model : NamedModel
item_named_model = children (seq (part (plus (name (codes "p"))) no_parts))

doc_spelled : SpellsModel doc_named_model (codes "(head, sec+)")
doc_spelled = (tt, ([], codes "head", codes ", sec+", [], refl, (head_named, refl), ([], codes " ", codes "sec+", [], refl, refl, (codes "sec", tt, (sec_named, refl), refl), refl, refl), refl, refl))

sec_spelled : SpellsModel sec_named_model (codes "(title?, (p|list)*)")
sec_spelled = (
  tt,
  (
    [],
    codes "title?",
    codes ", (p|list)*",
    [],
    refl,
    (codes "title", tt, (title_named, refl), refl),
    (
      [],
      codes " ",
      codes "(p|list)*",
      [],
      refl,
      refl,
      (
        codes "(p|list)",
        tt,
        (
          omega arith,
          ([], codes "p", codes "|list", [], refl, (p_named, refl), ([], [], codes "list", [], refl, refl, (list_named, refl), refl, refl), refl, refl),
        ),
        refl,
      ),
      refl,
      refl,
    ),
    refl,
    refl,
  ),
)

list_spelled : SpellsModel list_named_model (codes "(item, item+)")
list_spelled = (
  tt,
  (
    [],
    codes "item",
    codes ", item+",
    [],
    refl,
    (item_named, refl),
    (
      [],
      codes " ",
      codes "item+",
      [],
      refl,
      refl,
      (codes "item", tt, (item_named, refl), refl),
      refl,
      refl,
    ),
    refl,
    refl,
  ),
)

item_spelled : SpellsModel item_named_model (codes "(p+)")
item_spelled = (tt, ([], codes "p+", [], [], refl, (codes "p", tt, (p_named, refl), refl), refl, refl, refl))

data_spelled : SpellsModel (mixed []) (codes "(#PCDATA)")
data_spelled = inr (refl, record { before = []; listed = []; after = []; space_before = refl; names_listed = refl; space_after = refl; whole = refl })

p_spelled : SpellsModel (mixed (codes "em" ∷ codes "br" ∷ [])) (codes "(#PCDATA|em|br)*")
p_spelled = inl (record {
  before = [];
  listed = codes "|em|br";
  after = [];
  space_before = refl;
  names_listed = (
    [],
    [],
    codes "|br",
    refl,
    refl,
    em_named,
    ([], [], [], refl, refl, br_named, refl, refl),
    refl,
  );
  space_after = refl;
  whole = refl;
})

em_spelled : SpellsModel (mixed (codes "em" ∷ [])) (codes "(#PCDATA|em)*")
em_spelled = inl (record { before = []; listed = codes "|em"; after = []; space_before = refl; names_listed = ([], [], [], refl, refl, em_named, refl, refl); space_after = refl; whole = refl })

-- declarations, and the text that they are
record Declarations : Type 0 where
  items : List DtdItem
  text : List ℕ
  spelled : SpellsDeclarations items text

-- the last white space
abbrev ended : Declarations
ended = record { items = []; text = codes "\n"; spelled = refl }

-- one more declaration in front, after this white space
abbrev declared_first : (space x spec : List ℕ) (model : NamedModel) → list_all is_space space ≡ true → IsName x → SpellsModel model spec → Declarations → Declarations
declared_first space x spec model blank named is more = record {
  items = element x model ∷ more.items;
  text = space ++ declaration x spec ++ more.text;
  spelled = (space, declaration x spec, more.text, blank, tt, declares x spec model named is, more.spelled, refl);
}

abbrev drill_items : List DtdItem
drill_items =
    element (codes "doc") doc_named_model ∷ element (codes "head") (mixed []) ∷ element (codes "sec") sec_named_model ∷ element (codes "title") (mixed [])
    ∷ element (codes "p") (mixed (codes "em" ∷ codes "br" ∷ [])) ∷ element (codes "em") (mixed (codes "em" ∷ [])) ∷ element (codes "br") empty
    ∷ element (codes "list") list_named_model ∷ element (codes "item") item_named_model ∷ []

abbrev drill_declarations : Declarations
drill_declarations =
    declared_first [] (codes "doc") (codes "(head, sec+)") doc_named_model refl doc_named doc_spelled
    (declared_first (codes "\n") (codes "head") (codes "(#PCDATA)") (mixed []) refl head_named data_spelled
    (declared_first (codes "\n") (codes "sec") (codes "(title?, (p|list)*)") sec_named_model refl sec_named sec_spelled
    (declared_first (codes "\n") (codes "title") (codes "(#PCDATA)") (mixed []) refl title_named data_spelled
    (declared_first (codes "\n") (codes "p") (codes "(#PCDATA|em|br)*") (mixed (codes "em" ∷ codes "br" ∷ [])) refl p_named p_spelled
    (declared_first (codes "\n") (codes "em") (codes "(#PCDATA|em)*") (mixed (codes "em" ∷ [])) refl em_named em_spelled
    (declared_first (codes "\n") (codes "br") (codes "EMPTY") empty refl br_named refl
    (declared_first (codes "\n") (codes "list") (codes "(item, item+)") list_named_model refl list_named list_spelled
    (declared_first (codes "\n") (codes "item") (codes "(p+)") item_named_model refl item_named item_spelled ended))))))))

drill_spelled : SpellsDeclarations drill_items DRILL_DTD
drill_spelled = drill_declarations.spelled

no_mark : (rest : List ℕ) → DRILL_DTD ≡ BYTE_ORDER_MARK ++ rest → ⊥
no_mark rest e = let h : 60 ≡ 239 = ap (λ (l : List ℕ). get_or l 0 0) e in omega (arith, h)

pub drill_dtd_text : IsDtdText DRILL_DTD sections_dtd
drill_dtd_text = record {
  items = drill_items;
  rest = DRILL_DTD;
  behind_mark = ([], unmarked no_mark);
  spelled = plain drill_spelled;
  declared_once = refl;
  listed_once = (refl, (refl, (refl, (refl, (refl, (refl, (refl, (refl, (refl, tt)))))))));
  is_dtd = refl;
}

pub drill_dtd_limits : KeepsLimits DRILL_DTD sections_dtd
drill_dtd_limits =
    let bytes : length DRILL_DTD ≡ 245 = refl in
    let parts : parts_in_models sections_dtd.models ≡ 21 = refl in
    record {
      few_bytes = omega (arith, bytes);
      few_types = omega arith;
      few_parts = omega (arith, parts);
      short_names = refl;
      shallow = (omega arith, (omega arith, (omega arith, (omega arith, (omega arith, (omega arith, (omega arith, (omega arith, (omega arith, tt)))))))));
    }
