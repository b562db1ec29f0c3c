-- Names of an input, byte by byte and piece by piece.
use Rattle.std.proofs.Common.{◌≡◌, ℕ, List, [], ◌∷◌, ◌++◌, ◌⊎◌, inl, inr, zero, suc, refl, sym, ap, ◌∙◌, append_assoc, arith}
use Rattle.std.proofs.lemmas.List.{append-nil}
use Rattle.std.specs.List.{AllByRecursion}
use Rattle.pv_many.specs.Names.{AreNames, HasNoNul, StandInOrder, ended, last_name}

pub all_both : {X : Type 0} (P : X → Type 0) (xs ys : List X) → AllByRecursion P xs → AllByRecursion P ys → AllByRecursion P (xs ++ ys)
all_both P [] ys here there = there
all_both P (x ∷ xs) ys here there = (here.0, all_both P xs ys here.1 there)

pub all_as : {X : Type 0} (P Q : X → Type 0) (xs : List X) → ((x : X) → P x → Q x) → AllByRecursion P xs → AllByRecursion Q xs
all_as P Q [] f all = tt
all_as P Q (x ∷ xs) f all = (f x all.0, all_as P Q xs f all.1)

ended_both : (names more : List (List ℕ)) → ended (names ++ more) ≡ ended names ++ ended more
ended_both [] more = refl
ended_both (name ∷ names) more =
    ap (λ (h : List ℕ). name ++ (0 ∷ h)) (ended_both names more) ∙ sym (append_assoc name (0 ∷ ended names) (ended more))

pub names_none : AreNames [] [] []
names_none = record { are_bytes = refl; whole = tt; unended = tt }

-- bytes of a name were held before
pub names_held : (held : List ℕ) → HasNoNul held → AreNames held [] held
names_held held none = record { are_bytes = refl; whole = tt; unended = none }

-- names, and then those of a piece over what is held
pub names_then : (bytes piece : List ℕ) (names more : List (List ℕ)) (held rest : List ℕ) →
    AreNames bytes names held → AreNames (held ++ piece) more rest →
    AreNames (bytes ++ piece) (names ++ more) rest
names_then bytes piece names more held rest here there = record {
  are_bytes =
      ap (λ (h : List ℕ). h ++ piece) here.are_bytes
      ∙ append_assoc (ended names) held piece
      ∙ ap (λ (h : List ℕ). ended names ++ h) there.are_bytes
      ∙ sym (append_assoc (ended names) (ended more) rest)
      ∙ ap (λ (h : List ℕ). h ++ rest) (sym (ended_both names more));
  whole = all_both HasNoNul names more here.whole there.whole;
  unended = there.unended;
}

-- one byte more, which is no NUL
pub names_byte : (bytes : List ℕ) (names : List (List ℕ)) (held : List ℕ) (b : ℕ) →
    AreNames bytes names held → (b ≡ 0 → ⊥) → AreNames (bytes ++ b ∷ []) names (held ++ b ∷ [])
names_byte bytes names held b are other = record {
  are_bytes = ap (λ (h : List ℕ). h ++ b ∷ []) are.are_bytes ∙ append_assoc (ended names) held (b ∷ []);
  whole = are.whole;
  unended = all_both (λ n. n ≡ 0 → ⊥) held (b ∷ []) are.unended (other, tt);
}

-- the NUL that ends a name
pub names_end : (bytes : List ℕ) (names : List (List ℕ)) (held : List ℕ) (b : ℕ) →
    AreNames bytes names held → b ≡ 0 → AreNames (bytes ++ b ∷ []) (names ++ held ∷ []) []
names_end bytes names held b are is = record {
  are_bytes =
      ap (λ (h : List ℕ). h ++ b ∷ []) are.are_bytes
      ∙ ap (λ (n : ℕ). (ended names ++ held) ++ n ∷ []) is
      ∙ append_assoc (ended names) held (0 ∷ [])
      ∙ sym (ended_both names (held ∷ []))
      ∙ sym (append-nil (ended (names ++ held ∷ [])));
  whole = all_both HasNoNul names (held ∷ []) are.whole (are.unended, tt);
  unended = tt;
}

-- what stands in the bytes, whatever they are
pub record Reads (bytes : List ℕ) : Type 0 where
  pub names : List (List ℕ)
  pub rest : List ℕ
  pub are_names : AreNames bytes names rest

put_before : (b : ℕ) (bytes rest : List ℕ) (names : List (List ℕ)) → (b ≡ 0 → ⊥) → AreNames bytes names rest → Reads (b ∷ bytes)
put_before b bytes rest [] other are = record {
  names = [];
  rest = b ∷ rest;
  are_names = record { are_bytes = ap (λ (h : List ℕ). b ∷ h) are.are_bytes; whole = tt; unended = (other, are.unended) };
}
put_before b bytes rest (name ∷ names) other are = record {
  names = (b ∷ name) ∷ names;
  rest = rest;
  are_names = record {
    are_bytes = ap (λ (h : List ℕ). b ∷ h) are.are_bytes;
    whole = ((other, are.whole.0), are.whole.1);
    unended = are.unended;
  };
}

end_before : (bytes rest : List ℕ) (names : List (List ℕ)) → AreNames bytes names rest → AreNames (0 ∷ bytes) ([] ∷ names) rest
end_before bytes rest names are = record {
  are_bytes = ap (λ (h : List ℕ). 0 ∷ h) are.are_bytes;
  whole = (tt, are.whole);
  unended = are.unended;
}

pub zero_or_not : (b : ℕ) → (b ≡ 0) ⊎ (b ≡ 0 → ⊥)
zero_or_not zero = inl refl
zero_or_not (suc b) = inr (λ is. omega arith)

pub reads : (bytes : List ℕ) → Reads bytes
reads [] = record { names = []; rest = []; are_names = names_none }
reads (b ∷ bytes) =
    let more = reads bytes in
    elim (zero_or_not b) as (λ _. Reads (b ∷ bytes)) [
      | inl is ↦ record {
        names = [] ∷ more.names;
        rest = more.rest;
        are_names = rw is (end_before bytes more.rest more.names more.are_names);
      }
      | inr other ↦ put_before b bytes more.rest more.names other more.are_names
    ]

-- names that were answered stand in order at the front of whatever comes after them
pub in_order : (bytes : List ℕ) (names : List (List ℕ)) (held : List ℕ) → AreNames bytes names held → (more : List ℕ) → StandInOrder (bytes ++ more) names
in_order bytes names held are more =
    let behind = reads (held ++ more) in
    record {
      all = names ++ behind.names;
      rest = behind.rest;
      more = behind.names ++ last_name behind.rest;
      are_names = names_then bytes more names behind.names held behind.rest are behind.are_names;
      are_first = append_assoc names behind.names (last_name behind.rest);
    }

-- and so do those of a piece, behind them
pub in_order_then : (bytes piece : List ℕ) (names more : List (List ℕ)) (held : List ℕ) →
    AreNames bytes names held → StandInOrder (held ++ piece) more →
    StandInOrder (bytes ++ piece) (names ++ more)
in_order_then bytes piece names more held are order = record {
  all = names ++ order.all;
  rest = order.rest;
  more = order.more;
  are_names = names_then bytes piece names order.all held order.rest are order.are_names;
  are_first = append_assoc names order.all (last_name order.rest) ∙ ap (λ (h : List (List ℕ)). names
      ++ h) order.are_first ∙ sym (append_assoc names more order.more);
}

-- names that are all but one, and that one behind them
pub in_order_last : (bytes : List ℕ) (names : List (List ℕ)) (rest : List ℕ) → AreNames bytes names rest → StandInOrder bytes (names ++ last_name rest)
in_order_last bytes names rest are = record {
  all = names;
  rest = rest;
  more = [];
  are_names = are;
  are_first = sym (append-nil (names ++ last_name rest));
}
