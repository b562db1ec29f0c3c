-- A text has exactly one meaning.
use Rattle.std.proofs.Common.{◌≡◌, ◌≢◌, ◌<◌, inl, inr, ℕ, zero, suc, List, [], ◌∷◌, ◌++◌, length, codes, Bool, true, false, not, IsTrue, is_some}
use Rattle.std.proofs.Common.{cond, Option, Some, None, refl, sym, ap, ◌∙◌, append-nil, length-append, subst, arith}
use Rattle.std.proofs.lemmas.Bool.{cases_order}
use Rattle.pv_chars.specs.Spaces.{is_space, IsOptionalSpace}
use Rattle.pv_chars.specs.Scan.{after_space}
use Rattle.pv_chars.proofs.TextScans.{begins, after_space_takes, after_space-append}
use Rattle.pv_dtd.specs.Items.{DtdItem, text_declaration, element, skipped, comment, instruction, declared_in, models_in, parts_of_models}
use Rattle.pv_dtd.specs.Spelling.{StandsAt, Spells, IsSkippedWord}
use Rattle.pv_dtd.specs.Kinds.{Kind, parameter, nesting, syntax, twice, mixed_twice, limit, HasParameter, IsTooDeep, HasFault, IsFirstFault, Breaks, rank, declares_again, lists_twice, passes_limit}
use Rattle.pv_dtd.specs.Meaning.{is_place, HasPlace, is_front, Outcome, is_dtd, faulty, DtdRestMeans, ends, item, fault}
use Rattle.pv_dtd.specs.ItemReading.{item_at, parameter_at, is_too_deep, early_kind, broken_rule}
use Rattle.pv_chars.proofs.ReaderSteps.{same_some}
use Rattle.pv_dtd.proofs.Parameters.{parameter_read, parameter_is_read}
use Rattle.pv_dtd.proofs.TooManyParentheses.{too_deep_read, too_deep_is_read}
use Rattle.pv_dtd.proofs.GroupDepths.{begins_shallow}
use Rattle.pv_dtd.proofs.ItemsRead.{item_read, item_is_read}
use Rattle.pv_chars.proofs.CharFacts.{comment_opens, instruction_opens}

-- The place after white space.
place_begins : (place : List ℕ) → IsTrue (is_place place) → begins is_space place ≡ false
place_begins [] is = cc
place_begins (b ∷ bs) is = by (is_space b) is
  where
    by : (white : Bool) → not white ≡ true → white ≡ false
    by true e = cc
    by false e = refl

pub goes_after_space : {rest place : List ℕ} → HasPlace rest place → after_space rest ≡ place
goes_after_space {place} g = ap after_space g.whole ∙ after_space-append g.space place g.is_space (place_begins place g.is_place)

after_all_space : (rest : List ℕ) → IsOptionalSpace rest → after_space rest ≡ []
after_all_space rest s = ap after_space (sym (append-nil rest)) ∙ after_space-append rest [] s refl

pub no_place : {A : Type 0} {rest place : List ℕ} → IsOptionalSpace rest → HasPlace rest place → A
no_place {rest} {place} s g = let none : place ≡ [] = sym (goes_after_space g) ∙ after_all_space rest s in let is : IsTrue (is_place []) = rw none at g.is_place in cc

pub same_place : {rest p q : List ℕ} → HasPlace rest p → HasPlace rest q → p ≡ q
same_place a b = sym (goes_after_space a) ∙ goes_after_space b

pub goes_to : (rest place : List ℕ) → place ≡ after_space rest → place ≢ [] → HasPlace rest place
goes_to rest place at some =
    let run = after_space_takes rest in
    record { space = run.space; is_space = run.optional; whole = run.whole ∙ ap (λ r. run.space ++ r) (sym at); is_place = place_of place some (ap (begins is_space) at ∙ run.ends) }
  where
    place_of : (place : List ℕ) → place ≢ [] → begins is_space place ≡ false → is_place place ≡ true
    place_of [] some e = absurd (some refl)
    place_of (b ∷ bs) some e = ap not e

pub all_space : (rest : List ℕ) → after_space rest ≡ [] → IsOptionalSpace rest
all_space rest e =
    let run = after_space_takes rest in
    let all : rest ≡ run.space = run.whole ∙ ap (λ r. run.space ++ r) e ∙ append-nil run.space in
    subst IsOptionalSpace (sym all) run.optional

-- At most one item begins a place that isn't too deep.
pub same_item : {front : Bool} {place : List ℕ} {i j : DtdItem} {more others : List ℕ} → (IsTooDeep place → ⊥) → StandsAt front place i more → StandsAt front place j others → (i ≡ j) × (more ≡ others)
same_item {front} {place} {i} {j} {more} {others} shallow a b =
    let found : Some (i, more) ≡ Some (j, others) =
    sym (item_is_read front place i more a (begins_shallow front place i more a shallow))
    ∙ item_is_read front place j others b (begins_shallow front place j others b shallow) in
    let pair : (i, more) ≡ (j, others) = same_some _ _ found in
    (ap (λ (x : DtdItem × List ℕ). x.0) pair, ap (λ (x : DtdItem × List ℕ). x.1) pair)

-- Faults that are found before an item is read.
module _ (before : List DtdItem) (front : Bool) (place : List ℕ) where
  early_by : (o : Option (List ℕ)) (deep : Bool) → parameter_at place ≡ o →
      is_too_deep place ≡ deep → (kind : Kind) → cond (is_some o) (Some parameter)
      (cond deep (Some nesting) None) ≡ Some kind → IsFirstFault before front place kind
  early_by (Some rest) deep p d kind e = subst (IsFirstFault before front place) (same_some _ _ e) record { holds = parameter_read place rest p; first = λ earlier less h. absurd (omega arith) }
  early_by None true p d kind e = subst (IsFirstFault before front place) (same_some _ _ e) record { holds = too_deep_read place d; first = first }
    where
      first : (earlier : Kind) → rank earlier < 1 → HasFault before front place earlier → ⊥
      first parameter less h = let some = parameter_is_read h in let none = ap is_some p in cc
      first nesting less h = absurd (omega arith)
      first syntax less h = absurd (omega arith)
      first twice less h = absurd (omega arith)
      first mixed_twice less h = absurd (omega arith)
      first limit less h = absurd (omega arith)
  early_by None false p d kind e = cc

  pub early_fault : (kind : Kind) → early_kind place ≡ Some kind → IsFirstFault before front place kind
  unfolding early_kind
  early_fault kind e = early_by (parameter_at place) (is_too_deep place) refl refl kind e

no_early_by : (place : List ℕ) (o : Option (List ℕ)) (deep : Bool) → parameter_at place ≡ o →
    is_too_deep place ≡ deep → cond (is_some o) (Some parameter) (cond deep (Some nesting) None)
    ≡ None → (HasParameter place → ⊥) × (IsTooDeep place → ⊥)
no_early_by place (Some rest) deep p d e = cc
no_early_by place None true p d e = cc
no_early_by place None false p d e = (λ h. let some = parameter_is_read h in let none = ap is_some p in cc, λ t. let some = too_deep_is_read place t in cc)

pub no_early : (place : List ℕ) → early_kind place ≡ None → (HasParameter place → ⊥) × (IsTooDeep place → ⊥)
unfolding early_kind
no_early place e = no_early_by place (parameter_at place) (is_too_deep place) refl refl e

-- Where there is no such fault, and an item begins: a rule is broken exactly where this item breaks it.
module _ (before : List DtdItem) (front : Bool) (place : List ℕ) (early : early_kind place ≡ None) where
  no_parameter : HasParameter place → ⊥
  no_parameter = (no_early place early).0

  pub not_too_deep : IsTooDeep place → ⊥
  not_too_deep = (no_early place early).1

  module _ (i : DtdItem) (rest : List ℕ) (at : item_at front place ≡ Some (i, rest)) where
    pub item_begins : StandsAt front place i rest
    item_begins = (item_read front place (i, rest) at).begun

    some_item : HasFault before front place syntax → ⊥
    some_item none = none i rest item_begins

    breaks_is : (rule : DtdItem → Bool) → Breaks front place rule → rule i ≡ true
    breaks_is rule b = ap rule (same_item not_too_deep item_begins b.2).0 ∙ b.3

    breaks : (rule : DtdItem → Bool) → rule i ≡ true → Breaks front place rule
    breaks rule is = (i, rest, item_begins, is)

    keeps : (rule : DtdItem → Bool) → rule i ≡ false → Breaks front place rule → ⊥
    keeps rule is b = let broken = breaks_is rule b in cc

    abbrev again : DtdItem → Bool
    again = declares_again (declared_in before)

    abbrev past_limit : DtdItem → Bool
    past_limit = passes_limit (declared_in before) (parts_of_models (models_in before))

    first_by : (t m l : Bool) → again i ≡ t → lists_twice i ≡ m → past_limit i ≡ l → (kind : Kind) →
        cond t (Some twice) (cond m (Some mixed_twice) (cond l (Some limit) None)) ≡ Some kind →
        IsFirstFault before front place kind
    first_by true m l a b c kind e = subst (IsFirstFault before front place) (same_some _ _ e) record { holds = breaks again a; first = none }
      where
        none : (earlier : Kind) → rank earlier < 3 → HasFault before front place earlier → ⊥
        none parameter less h = no_parameter h
        none nesting less h = not_too_deep h
        none syntax less h = some_item h
        none twice less h = absurd (omega arith)
        none mixed_twice less h = absurd (omega arith)
        none limit less h = absurd (omega arith)
    first_by false true l a b c kind e = subst (IsFirstFault before front place) (same_some _ _ e) record { holds = breaks lists_twice b; first = none }
      where
        none : (earlier : Kind) → rank earlier < 4 → HasFault before front place earlier → ⊥
        none parameter less h = no_parameter h
        none nesting less h = not_too_deep h
        none syntax less h = some_item h
        none twice less h = keeps again a h
        none mixed_twice less h = absurd (omega arith)
        none limit less h = absurd (omega arith)
    first_by false false true a b c kind e = subst (IsFirstFault before front place) (same_some _ _ e) record { holds = breaks past_limit c; first = none }
      where
        none : (earlier : Kind) → rank earlier < 5 → HasFault before front place earlier → ⊥
        none parameter less h = no_parameter h
        none nesting less h = not_too_deep h
        none syntax less h = some_item h
        none twice less h = keeps again a h
        none mixed_twice less h = keeps lists_twice b h
        none limit less h = absurd (omega arith)
    first_by false false false a b c kind e = cc

    pub rule_broken : (kind : Kind) → broken_rule (declared_in before) (parts_of_models (models_in before)) i ≡ Some kind → IsFirstFault before front place kind
    unfolding broken_rule
    rule_broken kind e = first_by (again i) (lists_twice i) (past_limit i) refl refl refl kind e

    none_by : (t m l : Bool) → again i ≡ t → lists_twice i ≡ m → past_limit i ≡ l →
        cond t (Some twice) (cond m (Some mixed_twice) (cond l (Some limit) None)) ≡ None →
        (kind : Kind) → HasFault before front place kind → ⊥
    none_by true m l a b c e kind h = cc
    none_by false true l a b c e kind h = cc
    none_by false false true a b c e kind h = cc
    none_by false false false a b c e parameter h = no_parameter h
    none_by false false false a b c e nesting h = not_too_deep h
    none_by false false false a b c e syntax h = some_item h
    none_by false false false a b c e twice h = keeps again a h
    none_by false false false a b c e mixed_twice h = keeps lists_twice b h
    none_by false false false a b c e limit h = keeps past_limit c h

    pub no_rule_broken : broken_rule (declared_in before) (parts_of_models (models_in before)) i ≡ None → (kind : Kind) → HasFault before front place kind → ⊥
    unfolding broken_rule
    no_rule_broken e = none_by (again i) (lists_twice i) (past_limit i) refl refl refl e

  -- Where none begins.
  pub no_item : item_at front place ≡ None → IsFirstFault before front place syntax
  no_item none = record { holds = nothing_begins; first = first }
    where
      nothing_begins : (i : DtdItem) (rest : List ℕ) → StandsAt front place i rest → ⊥
      nothing_begins i rest b = let some = item_is_read front place i rest b (begins_shallow front place i rest b not_too_deep) in cc

      first : (earlier : Kind) → rank earlier < 2 → HasFault before front place earlier → ⊥
      first parameter less h = no_parameter h
      first nesting less h = not_too_deep h
      first syntax less h = absurd (omega arith)
      first twice less h = absurd (omega arith)
      first mixed_twice less h = absurd (omega arith)
      first limit less h = absurd (omega arith)

-- One kind of fault is the first.
kind_of_rule : ℕ → Kind
kind_of_rule zero = parameter
kind_of_rule (suc zero) = nesting
kind_of_rule (suc (suc zero)) = syntax
kind_of_rule (suc (suc (suc zero))) = twice
kind_of_rule (suc (suc (suc (suc zero)))) = mixed_twice
kind_of_rule (suc (suc (suc (suc (suc n))))) = limit

kind_of_rank : (kind : Kind) → kind_of_rule (rank kind) ≡ kind
unfolding kind_of_rule
kind_of_rank parameter = refl
kind_of_rank nesting = refl
kind_of_rank syntax = refl
kind_of_rank twice = refl
kind_of_rank mixed_twice = refl
kind_of_rank limit = refl

pub same_kind : {before : List DtdItem} {front : Bool} {place : List ℕ} {k j : Kind} → IsFirstFault before front place k → IsFirstFault before front place j → k ≡ j
same_kind {before} {front} {place} {k} {j} a b =
    elim (cases_order (rank k) (rank j)) [
      | inl same ↦ sym (kind_of_rank k) ∙ ap kind_of_rule same ∙ kind_of_rank j
      | inr (inl less) ↦ absurd (b.first k less a.holds)
      | inr (inr less) ↦ absurd (a.first j less b.holds)
    ]

-- after these items, the rest has one meaning
pub same_meaning : {before : List DtdItem} {rest : List ℕ} {o p : Outcome} → DtdRestMeans before rest o → DtdRestMeans before rest p → o ≡ p
same_meaning (ends a) (ends b) = refl
same_meaning (ends a) (item g i n m) = no_place a g
same_meaning (ends a) (fault g f) = no_place a g
same_meaning (item g i n m) (ends b) = no_place b g
same_meaning {before} (item g i n m) (item h j q l) =
    let at = same_place g h in
    let found = same_item (q nesting) (rw at at i) j in
    same_meaning (rw (found.0, found.1) at m) l
same_meaning {before} {rest} (item g i n m) (fault {kind} h f) = absurd (n kind (subst (λ place. HasFault before (is_front before rest) place kind) (sym (same_place g h)) f.holds))
same_meaning (fault g f) (ends b) = no_place b g
same_meaning {before} {rest} (fault {kind} g f) (item h i n m) = absurd (n kind (subst (λ place. HasFault before (is_front before rest) place kind) (same_place g h) f.holds))
same_meaning {before} {rest} (fault {kind} g f) (fault h e) = let kind_is =
    same_kind (subst (λ place. IsFirstFault before (is_front before rest) place kind)
    (same_place g h) f) e in ap (λ k. faulty k (length before)) kind_is

-- And it has some meaning.
pub record Meant (before : List DtdItem) (rest : List ℕ) : Type 0 where
  pub outcome : Outcome
  pub means : DtdRestMeans before rest outcome

text_some : (i : DtdItem) (text : List ℕ) → Spells i text → text ≢ []
text_some text_declaration text s e = let is = s.whole in cc
text_some (element n model) text s e = let is = s.whole in cc
text_some skipped text s e = by s.word s.is_word s.whole
  where
    by : (word : List ℕ) → IsSkippedWord word → text ≡ word ++ s.before ++ s.inside ++ codes ">" → ⊥
    by word (inl is) w = let t = rw is at w in cc
    by word (inr (inl is)) w = let t = rw is at w in cc
    by word (inr (inr is)) w = let t = rw is at w in cc
text_some comment text s e = let is = comment_opens text s in let whole = is.1 in cc
text_some instruction text s e = let is = instruction_opens text s in let whole = is.1 in cc

some_length : (text : List ℕ) → text ≢ [] → 0 < length text
some_length [] some = absurd (some refl)
some_length (b ∷ bs) some = omega arith

pub shorter : (front : Bool) (place : List ℕ) (i : DtdItem) (rest : List ℕ) → StandsAt front place i rest → length rest < length place
shorter front place i rest b = let longer = some_length b.text (text_some i b.text b.spelled) in omega (arith, longer, ap length b.whole, length-append b.text rest)

goes_shorter : (rest place : List ℕ) → HasPlace rest place → (n : ℕ) → length rest < suc n → length place < suc n
goes_shorter rest place g n less = omega (arith, ap length g.whole, length-append g.space place)

module _ (n : ℕ) (below : (before : List DtdItem) (rest : List ℕ) → length rest < n → Meant before rest) (before : List DtdItem) (rest : List ℕ) where
  meant_item : (place : List ℕ) → HasPlace rest place → length place < suc n →
      early_kind place ≡ None → (i : DtdItem) (more : List ℕ) → item_at (is_front before rest) place
      ≡ Some (i, more) → (o : Option Kind) →
      broken_rule (declared_in before) (parts_of_models (models_in before)) i ≡ o → Meant before rest
  meant_item place g less early i more is (Some kind) broken =
      record {
        outcome = faulty kind (length before);
        means = fault g (rule_broken before (is_front before rest) place early i more is kind broken);
      }
  meant_item place g less early i more is None kept =
      let begins = item_begins before (is_front before rest) place early i more is in
      let behind = below (before ++ i ∷ []) more (omega (arith, less, shorter (is_front before rest) place i more begins)) in
      record { outcome = behind.outcome; means = item g begins (no_rule_broken before (is_front before rest) place early i more is kept) behind.means }

  meant_by : (place : List ℕ) → HasPlace rest place → length place < suc n → early_kind place ≡ None → (o : Option (DtdItem × List ℕ)) → item_at (is_front before rest) place ≡ o → Meant before rest
  meant_by place g less early None is = record { outcome = faulty syntax (length before); means = fault g (no_item before (is_front before rest) place early is) }
  meant_by place g less early (Some x) is = meant_item place g less early x.0 x.1 is (broken_rule (declared_in before) (parts_of_models (models_in before)) x.0) refl

  meant_place : (place : List ℕ) → HasPlace rest place → length place < suc n → (o : Option Kind) → early_kind place ≡ o → Meant before rest
  meant_place place g less (Some kind) is = record { outcome = faulty kind (length before); means = fault g (early_fault before (is_front before rest) place kind is) }
  meant_place place g less None is = meant_by place g less is (item_at (is_front before rest) place) refl

  meant_at : length rest < suc n → (place : List ℕ) → place ≡ after_space rest → Meant before rest
  meant_at less [] at = record { outcome = is_dtd _; means = ends (all_space rest (sym at)) }
  meant_at less (b ∷ bs) at = let g = goes_to rest (b ∷ bs) at (λ none. cc) in meant_place (b ∷ bs) g (goes_shorter rest (b ∷ bs) g n less) (early_kind (b ∷ bs)) refl

pub meant : (n : ℕ) (before : List DtdItem) (rest : List ℕ) → length rest < n → Meant before rest
meant zero before rest less = absurd (omega arith)
meant (suc n) before rest less = meant_at n (meant n) before rest less (after_space rest) refl
