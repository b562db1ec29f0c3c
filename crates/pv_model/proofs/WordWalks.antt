-- What a walk over a word keeps.
use Rattle.std.proofs.Common.{◌≡◌, ℕ, suc, ◌+◌, Bool, true, false, List, ◌∷◌, ◌++◌, length, refl, sym, ap, ◌∙◌, arith, length-append, ◌↔◌, IsTrue, [], not}
use Rattle.pv_model.specs.Models.{IsOfChildren}
use Rattle.pv_model.specs.PlainForms.{plain_token}
use Rattle.pv_model.specs.declared.models.NameId.{NameId}
use Rattle.pv_model.specs.declared.models.Token.{Token}
use Rattle.pv_model.specs.declared.models.Token.TheVariants as token
use Rattle.pv_model.proofs.Answer.{read-means}
use Rattle.std.proofs.lemmas.List.{append-nil, drop_all}
use Rattle.pv_model.specs.Plain.{PlainPart, name, seq, choice, opt, star, plus, PlainParts, no_parts, part, PlainToken, named}
use Rattle.pv_model.specs.Positions.{position_count, position_count_all, may_be_empty, unreached_positions, unreached_positions_all, is_end_after, positions_after, any_reached, overwrite, reads}
use Rattle.pv_model.proofs.WrittenPositions.{length-positions_after}

pub record IsReading (p : PlainPart) (word : List PlainToken) (entered ended : Bool) (positions : List Bool) (rest : List PlainToken) : Type 0 where
  pub count : length positions ≡ position_count p
  pub answer : reads p entered ended positions rest ≡ reads p true (may_be_empty p) (unreached_positions p) word

mutual
  length-unreached_positions : (p : PlainPart) → length (unreached_positions p) ≡ position_count p
  length-unreached_positions (name y) = refl
  length-unreached_positions (seq ps) = length-unreached_positions_all ps
  length-unreached_positions (choice ps) = length-unreached_positions_all ps
  length-unreached_positions (opt p) = length-unreached_positions p
  length-unreached_positions (star p) = ap suc (length-unreached_positions p)
  length-unreached_positions (plus p) = ap suc (length-unreached_positions p)

  length-unreached_positions_all : (ps : PlainParts) → length (unreached_positions_all ps) ≡ position_count_all ps
  length-unreached_positions_all no_parts = refl
  length-unreached_positions_all (part p ps) =
      length-append (unreached_positions p) (unreached_positions_all ps) ∙ omega (arith, length-unreached_positions p, length-unreached_positions_all ps)

pub IsReading-none : (p : PlainPart) (word : List PlainToken) (ended : Bool)
    (positions : List Bool) → ended ≡ may_be_empty p → positions ≡ unreached_positions p →
    IsReading p word true ended positions word
IsReading-none p word ended positions e m = record {
  count = ap length m ∙ length-unreached_positions p;
  answer = rw (e, m);
}

-- all positions are overwritten
overwrite_whole : (new old : List Bool) → length new ≡ length old → overwrite 0 new old ≡ new
overwrite_whole new old e =
    ap (λ l. new ++ l) (drop_all (0 + length new) old (omega arith)) ∙ append-nil new

-- a name after which some position is reached
pub IsReading-more : (p : PlainPart) (word : List PlainToken) (entered ended : Bool) (positions : List Bool) (y : ℕ) (rest : List PlainToken) →
    IsReading p word entered ended positions (named y ∷ rest) → any_reached (positions_after p entered y positions) ≡ true → (ended2 : Bool) (new : List Bool) →
    ended2 ≡ is_end_after p entered y positions → new ≡ overwrite 0 (positions_after p entered y positions) positions → IsReading p word false ended2 new rest
IsReading-more p word entered ended positions y rest r some ended2 new e w =
    let whole : new ≡ positions_after p entered y positions = w ∙ overwrite_whole (positions_after p entered y positions) positions (length-positions_after p entered y positions ∙ sym r.count) in
    record {
      count = ap length whole ∙ length-positions_after p entered y positions;
      answer = rw (e, whole) (rw some at r.answer);
    }

-- the answer, where nothing is left, no position is reached, or no name follows
pub answer_at_end : (p : PlainPart) (word : List PlainToken) (entered ended : Bool) (positions : List Bool) → IsReading p word entered ended positions [] → IsTrue ended ↔ IsOfChildren p word
answer_at_end p word entered ended positions r = rw r.answer (read-means p word)

pub answer_nowhere : (p : PlainPart) (word : List PlainToken) (entered ended : Bool) (positions : List Bool) (y : ℕ) (rest : List PlainToken) →
    IsReading p word entered ended positions (named y ∷ rest) → any_reached (positions_after p entered y positions) ≡ false → IsTrue false ↔ IsOfChildren p word
answer_nowhere p word entered ended positions y rest r none =
    let no : false ≡ reads p true (may_be_empty p) (unreached_positions p) word = rw none at r.answer in
    rw no (read-means p word)

pub answer_no_name : (p : PlainPart) (word : List PlainToken) (entered ended : Bool) (positions : List Bool) (t : Token) (rest : List PlainToken) → ((id : NameId) → t ≡ token.Name id → ⊥) →
    IsReading p word entered ended positions (plain_token t ∷ rest) → IsTrue false ↔ IsOfChildren p word
answer_no_name p word entered ended positions (token.Name id) rest n r = absurd (n id refl)
answer_no_name p word entered ended positions token.Text rest n r = rw r.answer (read-means p word)
answer_no_name p word entered ended positions token.Other rest n r = rw r.answer (read-means p word)

pub not_so : (b : Bool) → not b ≡ true → b ≡ false
not_so true h = absurd cc
not_so false h = refl
