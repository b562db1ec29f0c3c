-- What a walk over the tokens of a word keeps, in a particle that is laid out.
use Rattle.std.proofs.Common.{◌≡◌, ℕ, Bool, true, false, ◌⊎◌, inl, inr, ◌↔◌, List, [], ◌∷◌, ◌++◌, length, map, IsTrue, refl, sym, ap, ◌∙◌, subst, arith}
use Rattle.pv_model.specs.Plain.{PlainPart, PlainToken, named, text, other}
use Rattle.pv_model.specs.Models.{Matches, IsOfChildren}
use Rattle.pv_model.specs.PlainForms.{plain_token}
use Rattle.pv_model.specs.declared.models.NameId.{NameId}
use Rattle.pv_model.specs.declared.models.Token.{Token}
use Rattle.pv_model.specs.declared.models.Token.TheVariants as token
use Rattle.pv_model.specs.LaidOut.{HasTokens}
use Rattle.pv_model.specs.Layouts.{PlainLayout, HasWord, has_empty_word, IsNumbered, Reach, after, reached, Advances}
use Rattle.pv_model.proofs.LayoutWords.{GoesOn, has_empty_word-means, ends-means, after-means}
use Rattle.pv_model.proofs.LayoutPlaces.{unreached, reached-unreached, nothing_goes_on}

pub no_elements : {X : Type 0} (xs : List X) → length xs ≡ 0 → xs ≡ []
no_elements [] e = refl
no_elements (x ∷ xs) e = absurd (omega arith)

-- what is left of the word is one of the particle, which is entered or goes on from what is reached
abbrev Left : (g : PlainLayout) → Bool → Reach g → List ℕ → Type 0
Left g e m w = (IsTrue e × HasWord g w) ⊎ GoesOn g m w

abbrev AnyLeft : (g : PlainLayout) → Bool → Reach g → List PlainToken → Type 0
AnyLeft g e m u = (w : List ℕ) × (u ≡ map named w) × Left g e m w

-- the tokens before these led to these places, and were a word themselves or not
pub record IsAt (g : PlainLayout) (word : List PlainToken) (entered ended : Bool) (places : List ℕ) (rest : List PlainToken) : Type 0 where
  pub reach : Reach g
  pub places_are : places ≡ reached g reach
  pub at_end : IsTrue ended ↔ Left g entered reach []
  pub answer : AnyLeft g entered reach rest ↔ AnyLeft g true (unreached g) word

module _ (g : PlainLayout) where
  only : (w : List ℕ) → Left g true (unreached g) w → HasWord g w
  only w l = elim l [ inl both ↦ both.1 | inr k ↦ absurd (nothing_goes_on g (unreached g) w (reached-unreached g) k) ]

  pub IsAt-start : (a b : ℕ) → IsNumbered g a b → (word : List PlainToken) (ended : Bool) (places : List ℕ) → ended ≡ has_empty_word g → places ≡ [] → IsAt g word true ended places word
  IsAt-start a b n word ended places e none = record {
    reach = unreached g;
    places_are = none ∙ sym (reached-unreached g);
    at_end = ((λ h. inl (refl, (has_empty_word-means g a b n).0 (sym e ∙ h))), (λ l. e ∙ (has_empty_word-means g a b n).1 (only [] l)));
    answer = (λ h. h, λ h. h);
  }

  none_left : (e : Bool) (m : Reach g) (w : List ℕ) → [] ≡ map named w → Left g e m w → Left g e m []
  none_left e m [] q l = l
  none_left e m (x ∷ w) q l = absurd cc

  -- the first token is a name
  first_name : (e : Bool) (m : Reach g) (y : ℕ) (u : List PlainToken) (w : List ℕ) → named y ∷ u ≡ map named w → Left g e m w →
      (v : List ℕ) × (u ≡ map named v) × Left g e m (y ∷ v)
  first_name e m y u [] q l = absurd cc
  first_name e m y u (x ∷ w) q l =
      let same : x ≡ y = cc in
      let rest : u ≡ map named w = cc in
      let P : ℕ → Type 0 = λ z. Left g e m (z ∷ w) in
      (w, rest, subst P same l)

  no_name : (t : PlainToken) (u : List PlainToken) (w : List ℕ) → ((y : ℕ) → t ≡ named y → ⊥) → t ∷ u ≡ map named w → ⊥
  no_name t u [] n q = cc
  no_name t u (x ∷ w) n q = n x cc

  not_entered : (m : Reach g) (w : List ℕ) → Left g false m w → GoesOn g m w
  not_entered m w l = elim l [ inl both ↦ let never = both.0 in absurd cc | inr k ↦ k ]

  module _ (a b : ℕ) (n : IsNumbered g a b) (word : List PlainToken) (entered ended : Bool) (places : List ℕ) where
    pub IsAt-more : (y : ℕ) (rest : List PlainToken) (at : IsAt g word entered ended places (named y ∷ rest)) (old new : List ℕ) (was is : Bool) → old ≡ [] →
        Advances g entered y at.reach old new was is → IsAt g word false is new rest
    IsAt-more y rest at old new was is none step =
        let m = after g entered y at.reach in
        let means : (w : List ℕ) → GoesOn g m w ↔ Left g entered at.reach (y ∷ w) = λ w. after-means g a b n entered y at.reach w in
        let to : AnyLeft g false m rest → AnyLeft g entered at.reach (named y ∷ rest) =
        λ l. (y ∷ l.0, ap (λ z. named y ∷ z) l.1, (means l.0).0 (not_entered m l.0 l.2)) in
        let from : AnyLeft g entered at.reach (named y ∷ rest) → AnyLeft g false m rest =
        λ l. let f = first_name entered at.reach y rest l.0 l.1 l.2 in (f.0, f.1, inr ((means f.0).1 f.2)) in
        record {
          reach = m;
          places_are = step.next ∙ ap (λ z. z ++ reached g m) none;
          at_end = ((λ h. inr ((ends-means g a b n m).0 (sym step.now ∙ h))), (λ l. step.now ∙ (ends-means g a b n m).1 (not_entered m [] l)));
          answer = ((λ l. at.answer.0 (to l)), (λ l. from (at.answer.1 l)));
        }

    -- no place is reached
    pub IsAt-nowhere : (y : ℕ) (rest : List PlainToken) (at : IsAt g word entered ended places (named y ∷ rest)) (old new : List ℕ) (was is : Bool) → old ≡ [] → new ≡ [] →
        Advances g entered y at.reach old new was is → AnyLeft g true (unreached g) word → ⊥
    IsAt-nowhere y rest at old new was is none nowhere step l =
        let m = after g entered y at.reach in
        let k = at.answer.1 l in
        let f = first_name entered at.reach y rest k.0 k.1 k.2 in
        let left : [] ++ reached g m ≡ [] = sym (step.next ∙ ap (λ z. z ++ reached g m) none) ∙ nowhere in
        nothing_goes_on g m f.0 left ((after-means g a b n entered y at.reach f.0).1 f.2)

  IsAt-text : (word : List PlainToken) (entered ended : Bool) (places : List ℕ) (rest : List PlainToken) → IsAt g word entered ended places (text ∷ rest) → AnyLeft g true (unreached g) word → ⊥
  IsAt-text word entered ended places rest at l = let k = at.answer.1 l in no_name text rest k.0 (λ y q. cc) k.1

  IsAt-other : (word : List PlainToken) (entered ended : Bool) (places : List ℕ) (rest : List PlainToken) → IsAt g word entered ended places (other ∷ rest) → AnyLeft g true (unreached g) word → ⊥
  IsAt-other word entered ended places rest at l = let k = at.answer.1 l in no_name other rest k.0 (λ y q. cc) k.1

  pub IsAt-no_name : (word : List PlainToken) (entered ended : Bool) (places : List ℕ) (t : Token) (rest : List PlainToken) → ((id : NameId) → t ≡ token.Name id → ⊥) →
      IsAt g word entered ended places (plain_token t ∷ rest) → AnyLeft g true (unreached g) word → ⊥
  IsAt-no_name word entered ended places (token.Name id) rest n at l = n id refl
  IsAt-no_name word entered ended places token.Text rest n at l = IsAt-text word entered ended places rest at l
  IsAt-no_name word entered ended places token.Other rest n at l = IsAt-other word entered ended places rest at l

  -- the answer
  module _ (word : List PlainToken) where
    tokens_to : HasTokens g word → AnyLeft g true (unreached g) word
    tokens_to c = (c.0, c.1, inl (refl, c.2))

    pub answer_at_end : (entered ended : Bool) (places : List ℕ) → IsAt g word entered ended places [] → IsTrue ended ↔ HasTokens g word
    answer_at_end entered ended places at = (
      (λ h. let l = at.answer.0 ([], refl, at.at_end.0 h) in (l.0, l.1, only l.0 l.2)),
      (λ c. let k = at.answer.1 (tokens_to c) in at.at_end.1 (none_left entered at.reach k.0 k.1 k.2)),
    )

    pub answer_never : (AnyLeft g true (unreached g) word → ⊥) → IsTrue false ↔ HasTokens g word
    answer_never n = (λ h. absurd cc, λ c. absurd (n (tokens_to c)))

-- the answer for a layout is the one for the particle whose words it has
pub children-means : (p : PlainPart) (g : PlainLayout) → ((w : List ℕ) → HasWord g w ↔ Matches p w) → (word : List PlainToken) (b : Bool) → IsTrue b ↔ HasTokens g word →
    IsTrue b ↔ IsOfChildren p word
children-means p g words word b h = (
  (λ t. let c = h.0 t in (c.0, c.1, (words c.0).0 c.2)),
  (λ c. h.1 (c.0, c.1, (words c.0).1 c.2)),
)
