-- Small DTDs, on which the definitions are tried.
use Rattle.std.specs.Prelude.{List, [], codes, suc, zero, ℕ, ◌∷◌}
use Rattle.pv_model.specs.Plain.{PlainModel, any, children, choice, empty, mixed, name, no_parts}
use Rattle.pv_model.specs.Plain.{opt, part, plus, seq, star}
use Rattle.pv_dtd.specs.Plain.{PlainDtd}

-- <!ELEMENT doc (head, sec+)> <!ELEMENT head (#PCDATA)> <!ELEMENT sec (title?, (p|list)*)>
-- <!ELEMENT title (#PCDATA)> <!ELEMENT p (#PCDATA|em|br)*> <!ELEMENT em (#PCDATA|em)*>
-- <!ELEMENT br EMPTY> <!ELEMENT list (item, item+)> <!ELEMENT item (p+)>
abbrev pub doc_model : PlainModel
doc_model = children (seq (part (name 1) (part (plus (name 2)) no_parts)))

-- that of sec
abbrev pub sec_model : PlainModel
sec_model = children (seq (part (opt (name 3))
    (part (star (choice (part (name 4) (part (name 7) no_parts)))) no_parts)))

-- that of list
abbrev pub list_model : PlainModel
list_model = children (seq (part (name 8) (part (plus (name 8)) no_parts)))

-- that of item
abbrev pub item_model : PlainModel
item_model = children (seq (part (plus (name 4)) no_parts))

-- the DTD of these
abbrev pub sections_dtd : PlainDtd
sections_dtd = record {
  names = codes "doc" ∷ codes "head" ∷ codes "sec" ∷ codes "title" ∷ codes "p" ∷ codes "em" ∷
      codes "br" ∷ codes "list" ∷ codes "item" ∷ [];
  models = doc_model ∷ mixed [] ∷ sec_model ∷ mixed [] ∷ mixed (5 ∷ 6 ∷ []) ∷ mixed (5 ∷ []) ∷
      empty ∷ list_model ∷ item_model ∷ [];
}

-- <!ELEMENT x ((x, y)?)> <!ELEMENT y EMPTY>
abbrev pub nested_dtd : PlainDtd
nested_dtd = record {
  names = codes "x" ∷ codes "y" ∷ [];
  models = children (seq (part (opt (seq (part (name 0) (part (name 1) no_parts)))) no_parts)) ∷
      empty ∷ [];
}

-- <!ELEMENT a (a)>
abbrev pub endless_dtd : PlainDtd
endless_dtd = record {
  names = codes "a" ∷ [];
  models = children (seq (part (name 0) no_parts)) ∷ [];
}

-- <!ELEMENT a (b)> <!ELEMENT b EMPTY>
abbrev pub pair_dtd : PlainDtd
pair_dtd = record {
  names = codes "a" ∷ codes "b" ∷ [];
  models = children (seq (part (name 1) no_parts)) ∷ empty ∷ [];
}

-- two elements of number y
abbrev pub twice : ℕ → PlainModel
twice y = children (seq (part (name y) (part (name y) no_parts)))

-- so many models from number i on, each twice the next name, and at last EMPTY
abbrev pub doubling : ℕ → ℕ → List PlainModel
doubling i zero = empty ∷ []
doubling i (suc k) = twice (suc i) ∷ doubling (suc i) k

-- for K from 0 to 19 and L = K + 1 <!ELEMENT tK (tL,tL)>, then <!ELEMENT t20 EMPTY>
abbrev pub doubling_dtd : PlainDtd
doubling_dtd = record {
  names = codes "t0" ∷ codes "t1" ∷ codes "t2" ∷ codes "t3" ∷ codes "t4" ∷ codes "t5" ∷ codes "t6" ∷
      codes "t7" ∷ codes "t8" ∷ codes "t9" ∷
      codes "t10" ∷ codes "t11" ∷ codes "t12" ∷ codes "t13" ∷ codes "t14" ∷ codes "t15" ∷
      codes "t16" ∷ codes "t17" ∷ codes "t18" ∷ codes "t19" ∷ codes "t20" ∷ [];
  models = doubling 0 20;
}

-- <!ELEMENT r ANY> <!ELEMENT s (u?)>
abbrev pub any_dtd : PlainDtd
any_dtd = record {
  names = codes "r" ∷ codes "s" ∷ codes "u" ∷ [];
  models = any ∷ children (seq (part (opt (name 2)) no_parts)) ∷ [];
}

-- <!ELEMENT r ANY> <!ELEMENT a (a)>
abbrev pub any_endless_dtd : PlainDtd
any_endless_dtd = record {
  names = codes "r" ∷ codes "a" ∷ [];
  models = any ∷ children (seq (part (name 1) no_parts)) ∷ [];
}
