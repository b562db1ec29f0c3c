-- Names that grow keep their numbers.
use Rattle.std.proofs.Common.{◌≡◌, ℕ, List, [], ◌∷◌, ◌++◌, map, unwrap_or, refl, sym, ap, ◌∙◌, append_assoc, append-nil, subst}
use Rattle.std.proofs.lemmas.List.{map-append}
use Rattle.std.proofs.lemmas.Grind.{flat_map-append}
use Rattle.pv_model.specs.Plain.{PlainPart, PlainParts, PlainModel, parts_of}
use Rattle.pv_model.specs.Plain as plain
use Rattle.pv_dtd.specs.Items.{NamedPart, named_parts_of, NamedModel, spelled_in, spelled_in_all, spelled_in_model, mentioned_in}
use Rattle.pv_dtd.specs.Numbering.{number_among, with_numbers, all_with_numbers, model_with_numbers}
use Rattle.pv_dtd.specs.NameOrder.{names_with, number_in, AreFirstIn, with_names, NumbersNames}
use Rattle.pv_dtd.specs.NameOrder.{NumbersPart, NumbersParts, NumbersModel, NumbersModels}
use Rattle.pv_dtd.proofs.NameSequences.{goes_on_then, with_name_goes_on, grown_goes_on, with_names-append, place_goes_on, place-names_with}

-- a name's number, however the names go on
pub number_stays : (names : List (List ℕ)) (x : List ℕ) (more : List (List ℕ)) → AreFirstIn (names_with names x) more → number_among more x ≡ number_in names x
number_stays names x more g = ap (λ o. unwrap_or o 0) (place_goes_on (names_with names x) more g x (number_in names x) (place-names_with names x))

pub numbers_step : {X : Type 0} (f : X → List ℕ) (first names after : List (List ℕ)) (xs more : List X) (x : X) (ys all : List ℕ) (y : ℕ) →
    more ≡ xs ++ x ∷ [] → after ≡ names_with names (f x) → y ≡ number_in names (f x) → all ≡ ys ++ y ∷ [] → names ≡ with_names first (map f xs) → NumbersNames names (map f xs) ys →
    (after ≡ with_names first (map f more)) × NumbersNames after (map f more) all
numbers_step f first names after xs more x ys all y is_more is_after is_y is_all grew placed =
    let mapped : map f more ≡ map f xs ++ f x ∷ [] = ap (map f) is_more ∙ map-append f xs (x ∷ []) in
    let grows : with_names first (map f xs ++ f x ∷ []) ≡ names_with names (f x) = with_names-append first (map f xs) (f x ∷ []) ∙ ap (λ ns. names_with ns (f x)) (sym grew) in (
      is_after ∙ sym grows ∙ ap (with_names first) (sym mapped),
      λ final g.
          let on : AreFirstIn (names_with names (f x)) final = subst (λ ns. AreFirstIn ns final) is_after g in
          let front = placed final (goes_on_then names (names_with names (f x)) final (with_name_goes_on names (f x)) on) in
          ap (map (number_among final)) mapped ∙ map-append (number_among final) (map f xs)
          (f x ∷ []) ∙ ap (λ l. l ++ number_among final (f x) ∷ []) front
          ∙ ap (λ n. ys ++ n ∷ []) (number_stays names (f x) final on ∙ sym is_y) ∙ sym is_all,
    )

named-push : (ps : List NamedPart) (p : NamedPart) (f : List ℕ → ℕ) → all_with_numbers f (named_parts_of (ps ++ p ∷ [])) ≡ parts_of (map (with_numbers f) ps ++ with_numbers f p ∷ [])
named-push [] p f = refl
named-push (q ∷ qs) p f = ap (plain.part (with_numbers f q)) (named-push qs p f)

named-all : (ps : List NamedPart) (f : List ℕ → ℕ) → all_with_numbers f (named_parts_of ps) ≡ parts_of (map (with_numbers f) ps)
named-all [] f = refl
named-all (q ∷ qs) f = ap (plain.part (with_numbers f q)) (named-all qs f)

parts_apart : (ps qs : List PlainPart) → parts_of ps ≡ parts_of qs → ps ≡ qs
parts_apart [] [] e = refl
parts_apart [] (q ∷ qs) e = cc
parts_apart (p ∷ ps) [] e = cc
parts_apart (p ∷ ps) (q ∷ qs) e = let others = parts_apart ps qs cc in cc

spelled-push : (ps : List NamedPart) (p : NamedPart) → spelled_in_all (named_parts_of (ps ++ p ∷ [])) ≡ spelled_in_all (named_parts_of ps) ++ spelled_in p
spelled-push [] p = append-nil (spelled_in p)
spelled-push (q ∷ qs) p = ap (λ ns. spelled_in q ++ ns) (spelled-push qs p) ∙ sym (append_assoc (spelled_in q) (spelled_in_all (named_parts_of qs)) (spelled_in p))

pub parts_step : {X Y : Type 0} (f : X → NamedPart) (h : Y → PlainPart) (first names after : List (List ℕ)) (xs more : List X) (x : X) (ys all : List Y) (y : Y) →
    more ≡ xs ++ x ∷ [] → after ≡ with_names names (spelled_in (f x)) →
    NumbersPart after (f x) (h y) → all ≡ ys ++ y ∷ [] →
    names ≡ with_names first (spelled_in_all (named_parts_of (map f xs))) →
    NumbersParts names (named_parts_of (map f xs)) (parts_of (map h ys)) →
    (after ≡ with_names first (spelled_in_all (named_parts_of (map f more)))) × NumbersParts after (named_parts_of (map f more)) (parts_of (map h all))
parts_step f h first names after xs more x ys all y is_more is_after is_y is_all grew placed =
    let mapped : map f more ≡ map f xs ++ f x ∷ [] = ap (map f) is_more ∙ map-append f xs (x ∷ []) in
    let mapped_all : map h all ≡ map h ys ++ h y ∷ [] = ap (map h) is_all ∙ map-append h ys (y ∷ []) in
    let spelled : spelled_in_all (named_parts_of (map f more)) ≡ spelled_in_all
    (named_parts_of (map f xs)) ++ spelled_in (f x) =
    ap (λ ps. spelled_in_all (named_parts_of ps)) mapped ∙ spelled-push (map f xs) (f x) in
    let grows : with_names first (spelled_in_all (named_parts_of (map f xs)) ++ spelled_in (f x))
    ≡ with_names names (spelled_in (f x)) = with_names-append first
    (spelled_in_all (named_parts_of (map f xs))) (spelled_in (f x))
    ∙ ap (λ ns. with_names ns (spelled_in (f x))) (sym grew) in (
      is_after ∙ sym grows ∙ ap (with_names first) (sym spelled),
      λ final g.
          let on : AreFirstIn (with_names names (spelled_in (f x))) final = subst (λ ns. AreFirstIn ns final) is_after g in
          let before = placed final (goes_on_then names (with_names names (spelled_in (f x))) final (grown_goes_on names (spelled_in (f x))) on) in
          let front : map (with_numbers (number_among final)) (map f xs) ≡ map h ys = parts_apart _ _ (sym (named-all (map f xs) (number_among final)) ∙ before) in
          ap (λ ps. all_with_numbers (number_among final) (named_parts_of ps)) mapped
          ∙ named-push (map f xs) (f x) (number_among final)
          ∙ ap (λ l. parts_of (l ++ with_numbers (number_among final) (f x) ∷ [])) front
          ∙ ap (λ q. parts_of (map h ys ++ q ∷ [])) (is_y final g) ∙ ap parts_of (sym mapped_all),
    )

pub models_step : {X Y : Type 0} (f : X → NamedModel) (h : Y → PlainModel) (first names after : List (List ℕ)) (xs more : List X) (x : X) (ys all : List Y) (y : Y) →
    more ≡ xs ++ x ∷ [] → after ≡ with_names names (spelled_in_model (f x)) →
    NumbersModel after (f x) (h y) → all ≡ ys ++ y ∷ [] →
    names ≡ with_names first (mentioned_in (map f xs)) → NumbersModels names (map f xs) (map h ys) →
    (after ≡ with_names first (mentioned_in (map f more))) × NumbersModels after (map f more) (map h all)
models_step f h first names after xs more x ys all y is_more is_after is_y is_all grew placed =
    let mapped : map f more ≡ map f xs ++ f x ∷ [] = ap (map f) is_more ∙ map-append f xs (x ∷ []) in
    let mapped_all : map h all ≡ map h ys ++ h y ∷ [] = ap (map h) is_all ∙ map-append h ys (y ∷ []) in
    let spelled : mentioned_in (map f more) ≡ mentioned_in (map f xs) ++ spelled_in_model (f x) =
    ap mentioned_in mapped ∙ flat_map-append spelled_in_model (map f xs) (f x ∷ [])
    ∙ ap (λ ns. mentioned_in (map f xs) ++ ns) (append-nil (spelled_in_model (f x))) in
    let grows : with_names first (mentioned_in (map f xs) ++ spelled_in_model (f x))
    ≡ with_names names (spelled_in_model (f x)) = with_names-append first
    (mentioned_in (map f xs)) (spelled_in_model (f x))
    ∙ ap (λ ns. with_names ns (spelled_in_model (f x))) (sym grew) in (
      is_after ∙ sym grows ∙ ap (with_names first) (sym spelled),
      λ final g.
          let on : AreFirstIn (with_names names (spelled_in_model (f x))) final = subst (λ ns. AreFirstIn ns final) is_after g in
          let front = placed final (goes_on_then names (with_names names (spelled_in_model (f x))) final (grown_goes_on names (spelled_in_model (f x))) on) in
          ap (map (model_with_numbers (number_among final))) mapped
          ∙ map-append (model_with_numbers (number_among final)) (map f xs) (f x ∷ [])
          ∙ ap (λ l. l ++ model_with_numbers (number_among final) (f x) ∷ []) front
          ∙ ap (λ q. map h ys ++ q ∷ []) (is_y final g) ∙ sym mapped_all,
    )
