-- Items one after the other: all at the front are read, in one way.
use Rattle.std.proofs.Common.{◌≡◌, ◌≢◌, ◌<◌, ℕ, zero, suc, ◌-◌, List, [], ◌∷◌, ◌++◌, length, true, Option, Some, None, refl, sym, ap, ◌∙◌, append_assoc, append-nil, length-append, arith, subst}
use Rattle.std.proofs.lemmas.List.{append_cancel_right, take_at}
use Rattle.pv_params.specs.Items.{TextItem}
use Rattle.pv_params.specs.Spelling.{AreItems, nothing, item}
use Rattle.pv_chars.specs.CharReading.{is_nothing}
use Rattle.pv_params.specs.ItemReading.{ItemReader, behind_by, behind_items, are_items, front_of}

-- an item stands at the front
pub record Front (Spells : TextItem → List ℕ → Type 0) (bytes : List ℕ) (i : TextItem) (rest : List ℕ) : Type 0 where
  pub text : List ℕ
  pub spelled : Spells i text
  pub whole : bytes ≡ text ++ rest

-- all items that stand at the front
pub record TakesItems (Spells : TextItem → List ℕ → Type 0) (at : ItemReader) (bytes rest : List ℕ) : Type 0 where
  pub front : List ℕ
  pub are_items : AreItems Spells front
  pub whole : bytes ≡ front ++ rest
  pub ends : at rest ≡ None

some_length : (text : List ℕ) → text ≢ [] → 0 < length text
some_length [] some = absurd (some refl)
some_length (b ∷ bs) some = omega arith

pub front_is : (text rest : List ℕ) → front_of (text ++ rest) rest ≡ text
front_is text rest = take_at text rest (length (text ++ rest) - length rest) (omega (arith, length-append text rest))

-- a reader that reads such items, and each of them
pub record Reads (Spells : TextItem → List ℕ → Type 0) (at : ItemReader) : Type 0 where
  pub read : (bytes : List ℕ) (i : TextItem) (rest : List ℕ) → at bytes ≡ Some (i, rest) → Front Spells bytes i rest
  pub is_read : (i : TextItem) (text rest : List ℕ) → Spells i text → at (text ++ rest) ≡ Some (i, rest)
  pub some : (i : TextItem) (text : List ℕ) → Spells i text → text ≢ []

module _ (Spells : TextItem → List ℕ → Type 0) (at : ItemReader) (reads : Reads Spells at) where
  pub shorter : (bytes : List ℕ) (i : TextItem) (rest : List ℕ) → Front Spells bytes i rest → length rest < length bytes
  shorter bytes i rest f = let long = some_length f.text (reads.some i f.text f.spelled) in omega (arith, ap length f.whole, length-append f.text rest)

  pub read_shorter : (bytes : List ℕ) (i : TextItem) (rest : List ℕ) → at bytes ≡ Some (i, rest) → length rest < length bytes
  read_shorter bytes i rest e = shorter bytes i rest (reads.read bytes i rest e)

  pub nothing_at_end : at [] ≡ None
  nothing_at_end = by (at []) refl
    where
      by : (o : Option (TextItem × List ℕ)) → at [] ≡ o → o ≡ None
      by None e = refl
      by (Some x) e = let long = shorter [] x.0 x.1 (reads.read [] x.0 x.1 e) in absurd (omega arith)

  pub same_item : (bytes : List ℕ) (i j : TextItem) (rest more : List ℕ) → Front Spells bytes i rest → Front Spells bytes j more → (i ≡ j) × (rest ≡ more)
  same_item bytes i j rest more f g =
      let first : at bytes ≡ Some (i, rest) = ap at f.whole ∙ reads.is_read i f.text rest f.spelled in
      let second : at bytes ≡ Some (j, more) = ap at g.whole ∙ reads.is_read j g.text more g.spelled in
      let same : Some (i, rest) ≡ Some (j, more) = sym first ∙ second in
      let pair = same_some _ _ same in
      (ap (λ (x : TextItem × List ℕ). x.0) pair, ap (λ (x : TextItem × List ℕ). x.1) pair)
    where
      same_some : {A : Type 0} (x y : A) → Some x ≡ Some y → x ≡ y
      same_some x y e = cc

  behind_takes : (steps : ℕ) (bytes : List ℕ) (o : Option (TextItem × List ℕ)) → at bytes ≡ o → length bytes < suc (suc steps) →
      ((more : List ℕ) → length more < suc steps → TakesItems Spells at more (behind_items at steps more)) → TakesItems Spells at bytes (behind_by (behind_items at steps) bytes o)
  behind_takes steps bytes None e few below = record { front = []; are_items = nothing refl; whole = refl; ends = e }
  behind_takes steps bytes (Some x) e few below =
      let f = reads.read bytes x.0 x.1 e in
      let others = below x.1 (omega (arith, shorter bytes x.0 x.1 f)) in
      record {
        front = f.text ++ others.front;
        are_items = item x.0 f.text others.front f.spelled
            others.are_items refl;
        whole = f.whole ∙ ap (λ l. f.text ++ l) others.whole
            ∙ sym (append_assoc f.text others.front (behind_items at steps x.1));
        ends = others.ends;
      }

  pub run_takes : (steps : ℕ) (bytes : List ℕ) → length bytes < suc steps → TakesItems Spells at bytes (behind_items at steps bytes)
  unfolding behind_items
  run_takes zero [] few = record { front = []; are_items = nothing refl; whole = refl; ends = nothing_at_end }
  run_takes zero (b ∷ bs) few = absurd (omega arith)
  run_takes (suc steps) bytes few = behind_takes steps bytes (at bytes) refl few (run_takes steps)

  pub same_run : {front other : List ℕ} (rest more : List ℕ) → AreItems Spells front →
      at rest ≡ None → AreItems Spells other → at more ≡ None → front ++ rest ≡ other ++ more →
      (front ≡ other) × (rest ≡ more)
  same_run rest more (nothing e) a (nothing f) b w = (e ∙ sym f, rw (e, f) at w)
  same_run rest more (nothing e) a (item i t r s _ f) b w =
      let is : rest ≡ t ++ (r ++ more) = rw e at w ∙ ap (λ l. l ++ more) f ∙ append_assoc t r more in
      let some : at rest ≡ Some (i, r ++ more) = ap at is ∙ reads.is_read i t (r ++ more) s in cc
  same_run rest more (item i t r s _ e) a (nothing f) b w =
      let is : more ≡ t ++ (r ++ rest) = rw f at (sym w) ∙ ap (λ l. l ++ rest) e ∙ append_assoc t r rest in
      let some : at more ≡ Some (i, r ++ rest) = ap at is ∙ reads.is_read i t (r ++ rest) s in cc
  same_run rest more (item i t r s below e) a (item j u q z under f) b w =
      let one : (t ++ (r ++ rest)) ≡ (u ++ (q ++ more)) = sym (ap (λ l. l ++ rest) e ∙ append_assoc t r rest) ∙ w ∙ ap (λ l. l ++ more) f ∙ append_assoc u q more in
      let found = same_item (t ++ (r ++ rest)) i j (r ++ rest) (q ++ more) record { text = t; spelled = s; whole = refl } record { text = u; spelled = z; whole = one } in
      let others = same_run rest more below a under b found.1 in
      let first : t ≡ u = append_cancel_right t u (r ++ rest) (one ∙ ap (λ l. u ++ l) (sym found.1)) in
      (e ∙ ap (λ l. l ++ r) first ∙ ap (λ l. u ++ l) others.0 ∙ sym f, others.1)

  -- the run at the front is all items
  pub run_is : (front rest : List ℕ) → AreItems Spells front → at rest ≡ None → behind_items at (length (front ++ rest)) (front ++ rest) ≡ rest
  run_is front rest are ends =
      let takes = run_takes (length (front ++ rest)) (front ++ rest) (omega arith) in
      sym (same_run rest _ are ends takes.are_items takes.ends takes.whole).1

  pub items_are : (text : List ℕ) → are_items at text ≡ true → AreItems Spells text
  items_are text e = by (behind_items at (length text) text) (run_takes (length text) text (omega arith)) e
    where
      by : (rest : List ℕ) → TakesItems Spells at text rest → is_nothing rest ≡ true → AreItems Spells text
      by [] takes e = subst (AreItems Spells) (sym (takes.whole ∙ append-nil takes.front)) takes.are_items
      by (b ∷ bs) takes e = cc

  pub are_items_read : (text : List ℕ) → AreItems Spells text → are_items at text ≡ true
  are_items_read text are =
      let takes = run_takes (length text) text (omega arith) in
      let same = same_run [] (behind_items at (length text) text) are nothing_at_end takes.are_items takes.ends (append-nil text ∙ takes.whole) in
      ap is_nothing (sym same.1)

  -- where an item is read, all after it are
  pub next_items : (bytes : List ℕ) (i : TextItem) (rest : List ℕ) → at bytes ≡ Some (i, rest) → behind_items at (length rest) rest ≡ behind_items at (length bytes) bytes
  next_items bytes i rest e =
      let f = reads.read bytes i rest e in
      let here = run_takes (length bytes) bytes (omega arith) in
      let there = run_takes (length rest) rest (omega arith) in
      let whole : bytes ≡ (f.text ++ there.front) ++ behind_items at (length rest) rest = f.whole
      ∙ ap (λ l. f.text ++ l) there.whole
      ∙ sym (append_assoc f.text there.front (behind_items at (length rest) rest)) in
      (same_run _ _ (item i f.text there.front f.spelled there.are_items refl) there.ends here.are_items here.ends (sym whole ∙ here.whole)).1

  pub ended_items : (bytes : List ℕ) → at bytes ≡ None → behind_items at (length bytes) bytes ≡ bytes
  ended_items bytes e = run_is [] bytes (nothing refl) e
