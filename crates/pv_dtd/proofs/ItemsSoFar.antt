-- The items that were read, and what the rest means after them.
use Rattle.std.proofs.Common.{◌≡◌, ◌≢◌, ◌≤◌, ◌<◌, ◌+◌, ℕ, List, [], ◌∷◌, ◌++◌, length, Bool, true, false, ◌&&◌, not, is_some, Some, None, refl, sym, ap, ◌∙◌, length-append, append-nil, subst, arith}
use Rattle.std.specs.Prelude.{nat_eq}
use Rattle.std.proofs.lemmas.Grind.{flat_map-append}
use Rattle.std.proofs.lemmas.List.Folds.{list_any-append}
use Rattle.std.proofs.Math.Bool.{or-false}
use Rattle.std.proofs.lemmas.Bool.{and_parts, or_parts}
use Rattle.std.proofs.lemmas.Bool.Decides.{Decides-eqb}
use Rattle.std.specs.Str.{bytes_eq}
use Rattle.std.specs.List.{flat_map, list_any}
use Rattle.pv_chars.specs.Scan.{after_space}
use Rattle.pv_dtd.specs.Facts.{are_distinct, MAX_TYPES, MAX_PARTS}
use Rattle.pv_dtd.specs.Items.{NamedModel, DtdItem, text_declaration, element, skipped, comment, instruction, declared_by, declared_in, model_in, models_in, mentioned_by, parts_by, parts_of_models}
use Rattle.pv_dtd.specs.Kinds.{Kind, parameter, nesting, syntax, declares_again, is_too_long}
use Rattle.pv_dtd.specs.Meaning.{is_place, is_front, Outcome, is_dtd, faulty, DtdRestMeans, ends, item, fault}
use Rattle.pv_dtd.specs.Spelling.{StandsAt}
use Rattle.pv_dtd.specs.Numbering.{dtd_of_items}
use Rattle.pv_dtd.specs.NameOrder.{with_names}
use Rattle.pv_dtd.specs.ItemReading.{item_at, parameter_at, is_too_deep, early_kind, broken_rule}
use Rattle.pv_dtd.specs.SoFar.{IsShallowItem, IsSoundItem, AreSoundItems, AreRuled, Declares}
use Rattle.pv_dtd.specs.Plain.{place_of}
use Rattle.pv_dtd.proofs.Places.{is_some-place}
use Rattle.pv_dtd.proofs.DistinctLists.{bytes_eq-swap}
use Rattle.pv_dtd.proofs.ItemsRead.{item_read}
use Rattle.pv_dtd.proofs.BrokenRules.{Keeps, kept}
use Rattle.pv_dtd.proofs.OneMeaning.{goes_to, all_space, no_item, rule_broken, no_rule_broken, early_fault, item_begins}

-- Behind so many items, which declare these names, models and parts, the rest means what the text means.
pub record AreSoFar (bytes : List ℕ) (count : ℕ) (names : List (List ℕ)) (models : List NamedModel) (parts : ℕ) (rest : List ℕ) : Type 0 where
  pub before : List DtdItem
  pub counted : count ≡ length before
  pub declares : Declares names models parts before
  pub within : count + length rest ≤ length bytes
  pub behind : (o : Outcome) → DtdRestMeans before rest o → DtdRestMeans [] bytes o

pub so_far_none : (bytes : List ℕ) → AreSoFar bytes 0 [] [] 0 bytes
so_far_none bytes = record {
  before = [];
  counted = refl;
  declares = record { ruled = record { sound = tt; once = refl; few_types = omega arith; few_parts = omega arith }; names_are = refl; models_are = refl; parts_are = refl };
  within = omega arith;
  behind = λ o m. m;
}

-- the front, by the number of items
front_is : (before : List DtdItem) (rest : List ℕ) (count : ℕ) → count ≡ length before → (nat_eq count 0 && is_place rest) ≡ is_front before rest
front_is [] rest count e = rw e refl
front_is (i ∷ is) rest count e = ap (λ b. b && is_place rest) (by (nat_eq count 0) refl)
  where
    by : (none : Bool) → nat_eq count 0 ≡ none → none ≡ false
    by true is = let zero = (Decides-eqb count 0).0 is in absurd (omega (arith, zero, e))
    by false is = refl

sound-append : (items : List DtdItem) (i : DtdItem) → AreSoundItems items → IsSoundItem i → AreSoundItems (items ++ i ∷ [])
sound-append [] i s is = (is, tt)
sound-append (j ∷ js) i s is = (s.0, sound-append js i s.1 is)

pub parts-append : (ms ns : List NamedModel) → parts_of_models (ms ++ ns) ≡ parts_of_models ms + parts_of_models ns
parts-append [] ns = omega arith
parts-append (m ∷ ms) ns = omega (arith, parts-append ms ns)

pub parts_of_item : (i : DtdItem) → parts_of_models (model_in i) ≡ parts_by i
parts_of_item text_declaration = refl
parts_of_item (element n model) = omega arith
parts_of_item skipped = refl
parts_of_item comment = refl
parts_of_item instruction = refl

differ-push : (names : List (List ℕ)) (n : List ℕ) → are_distinct names ≡ true → list_any (bytes_eq n) names ≡ false → are_distinct (names ++ n ∷ []) ≡ true
differ-push [] n d new = refl
differ-push (m ∷ ns) n d new =
    let two = and_parts (not (list_any (bytes_eq m) ns)) (are_distinct ns) d in
    let apart = or_parts (bytes_eq n m) (list_any (bytes_eq n) ns) new in
    let other : list_any (bytes_eq m) (ns ++ n ∷ []) ≡ list_any (bytes_eq m) ns = list_any-append (bytes_eq m) ns (n ∷ []) ∙ rw (bytes_eq-swap m n, apart.0) (or-false (list_any (bytes_eq m) ns)) in
    rw (other, two.0, differ-push ns n two.1 apart.1) refl

-- a new name goes at the end
declared_behind : (names : List (List ℕ)) (i : DtdItem) → declares_again names i ≡ false → with_names names (declared_by i) ≡ names ++ declared_by i
declared_behind names (element n model) new =
    let none : is_some (place_of names n) ≡ false = is_some-place n names ∙ sym (or-false (list_any (bytes_eq n) names)) ∙ new in
    rw none refl
declared_behind names text_declaration new = sym (append-nil names)
declared_behind names skipped new = sym (append-nil names)
declared_behind names comment new = sym (append-nil names)
declared_behind names instruction new = sym (append-nil names)

differ_behind : (names : List (List ℕ)) (i : DtdItem) → are_distinct names ≡ true → declares_again names i ≡ false → are_distinct (names ++ declared_by i) ≡ true
differ_behind names (element n model) d new = differ-push names n d (sym (or-false (list_any (bytes_eq n) names)) ∙ new)
differ_behind names text_declaration d new = ap are_distinct (append-nil names) ∙ d
differ_behind names skipped d new = ap are_distinct (append-nil names) ∙ d
differ_behind names comment d new = ap are_distinct (append-nil names) ∙ d
differ_behind names instruction d new = ap are_distinct (append-nil names) ∙ d

pub joined : {A : Type 0} (f : DtdItem → List A) (before : List DtdItem) (i : DtdItem) → flat_map f (before ++ i ∷ []) ≡ flat_map f before ++ f i
joined f before i = flat_map-append f before (i ∷ []) ∙ ap (λ xs. flat_map f before ++ xs) (append-nil (f i))

-- ruled items, and after them one that keeps the rules
pub ruled_more : (before : List DtdItem) (i : DtdItem) → AreRuled before →
    {front : Bool} {place rest : List ℕ} → StandsAt front place i rest → IsShallowItem i →
    Keeps (declared_in before) (parts_of_models (models_in before)) i → AreRuled (before ++ i ∷ [])
ruled_more before i r b shallow k =
    let long = or_parts (list_any is_too_long (declared_by i)) (list_any is_too_long (mentioned_by i)) (sym (list_any-append is_too_long (declared_by i) (mentioned_by i)) ∙ k.short) in
    record {
      sound = sound-append before i r.sound record { text = b.text; spelled = b.spelled; shallow = shallow; differ = k.differ; short = long.0; mentions_short = long.1 };
      once = ap are_distinct (joined declared_by before i) ∙ differ_behind (declared_in before) i r.once k.new;
      few_types = omega (arith, ap length (joined declared_by before i), k.few_types);
      few_parts = omega (arith, ap parts_of_models (joined model_in before i), parts-append (models_in before) (model_in i), parts_of_item i, k.few_parts);
    }

module _ (bytes : List ℕ) (count : ℕ) (names : List (List ℕ)) (models : List NamedModel) (parts : ℕ)
    (rest : List ℕ) (s : AreSoFar bytes count names models parts rest) (place : List ℕ) (at : place
    ≡ after_space rest) where
  pub all_read : place ≡ [] → (items : List DtdItem) × DtdRestMeans [] bytes (is_dtd (dtd_of_items items)) × Declares names models parts items
  all_read none = (s.before, s.behind (is_dtd (dtd_of_items s.before)) (ends (all_space rest (sym at ∙ none))), s.declares)

  few_names : length names ≤ MAX_TYPES
  few_names = omega (arith, ap length s.declares.names_are, s.declares.ruled.few_types)

  module _ (some : place ≢ []) where
    abbrev front : Bool
    front = is_front s.before rest

    faulty_is : (kind : Kind) → DtdRestMeans s.before rest (faulty kind (length s.before)) → DtdRestMeans [] bytes (faulty kind count)
    faulty_is kind m = subst (λ n. DtdRestMeans [] bytes (faulty kind n)) (sym s.counted) (s.behind _ m)

    early : (kind : Kind) → early_kind place ≡ Some kind → DtdRestMeans [] bytes (faulty kind count)
    early kind e = faulty_is kind (fault (goes_to rest place at some) (early_fault s.before front place kind e))

    pub refers : is_some (parameter_at place) ≡ true → DtdRestMeans [] bytes (faulty parameter count)
    unfolding early_kind
    refers e = early parameter (rw e refl)

    pub too_deep : is_some (parameter_at place) ≡ false → is_too_deep place ≡ true → DtdRestMeans [] bytes (faulty nesting count)
    unfolding early_kind
    too_deep e d = early nesting (rw (e, d) refl)

    module _ (no_reference : is_some (parameter_at place) ≡ false) (not_deep : is_too_deep place ≡ false) where
      neither : early_kind place ≡ None
      unfolding early_kind
      neither = rw (no_reference, not_deep) refl

      pub no_item_stands : None ≡ item_at (nat_eq count 0 && is_place rest) place → DtdRestMeans [] bytes (faulty syntax count)
      no_item_stands none = faulty_is syntax (fault (goes_to rest place at some)
          (no_item s.before front place neither (ap (λ f. item_at f place)
          (sym (front_is s.before rest count s.counted)) ∙ sym none)))

      module _ (i : DtdItem) (more : List ℕ) (read : Some (i, more) ≡ item_at (nat_eq count 0 && is_place rest) place) where
        is_read : item_at front place ≡ Some (i, more)
        is_read = ap (λ f. item_at f place) (sym (front_is s.before rest count s.counted)) ∙ sym read

        rules_are : broken_rule (declared_in s.before) (parts_of_models (models_in s.before)) i ≡ broken_rule names parts i
        rules_are = ap (λ ns. broken_rule ns (parts_of_models (models_in s.before)) i) (sym s.declares.names_are) ∙ ap (λ n. broken_rule names n i) (sym s.declares.parts_are)

        pub item_breaks : (kind : Kind) → Some kind ≡ broken_rule names parts i → DtdRestMeans [] bytes (faulty kind count)
        item_breaks kind broken = faulty_is kind (fault (goes_to rest place at some) (rule_broken s.before front place neither i more is_read kind (rules_are ∙ sym broken)))

        pub few_more : None ≡ broken_rule names parts i → parts + parts_by i ≤ MAX_PARTS
        few_more keeps = (kept names parts i keeps).few_parts

        pub one_more : None ≡ broken_rule names parts i → (after : List (List ℕ)) →
            after ≡ with_names names (declared_by i) → (all : List NamedModel) → all ≡ models
            ++ model_in i → (sum : ℕ) → sum ≡ parts + parts_by i →
            length more < length place → length place ≤ length rest → AreSoFar bytes (count + 1) after all sum more
        one_more keeps after is_after all is_all sum is_sum shorter within =
            let k = kept names parts i keeps in
            let begun = item_read front place (i, more) is_read in
            let behind = subst (λ n. Keeps (declared_in s.before) n i) s.declares.parts_are (subst (λ ns. Keeps ns parts i) s.declares.names_are k) in
            let names_are : names ++ declared_by i ≡ declared_in (s.before ++ i ∷ []) = ap (λ ns. ns ++ declared_by i) s.declares.names_are ∙ sym (joined declared_by s.before i) in
            let parts_are : sum ≡ parts_of_models (models_in (s.before ++ i ∷ [])) = is_sum
            ∙ omega (
              arith,
              s.declares.parts_are,
              ap parts_of_models (joined model_in s.before i),
              parts-append (models_in s.before)
                  (model_in i),
              parts_of_item i,
            ) in
            record {
              before = s.before ++ i ∷ [];
              counted = omega (arith, s.counted, length-append s.before (i ∷ []));
              declares = record {
                ruled = ruled_more s.before i s.declares.ruled begun.begun begun.shallow behind;
                names_are = is_after ∙ declared_behind names i k.new ∙ names_are;
                models_are = is_all ∙ ap (λ ms. ms ++ model_in i) s.declares.models_are ∙ sym (joined model_in s.before i);
                parts_are = parts_are;
              };
              within = omega (arith, s.within, shorter, within);
              behind = λ o m. s.behind o (item (goes_to rest place at some)
                  (item_begins s.before front place neither i more is_read)
                  (no_rule_broken s.before front place neither i more is_read (rules_are ∙ sym keeps)) m);
            }
