-- A file without `%` and without `<![` comes back as it is.
use Rattle.std.proofs.Common.{◌≡◌, ◌≢◌, ℕ, List, [], ◌∷◌, ◌++◌, codes, Bool, true, false, refl, sym, ap, ◌∙◌, subst, append_assoc, append-nil}
use Rattle.pv_chars.specs.Fronts.{ContainsBytes}
use Rattle.pv_params.specs.Items.{Mode, file, between, inside, value, TextItem, puts, reference, parameter, declaration}
use Rattle.pv_params.specs.Spelling.{StandsAt, AreItems, nothing, item, SpellsInside, IsExternal}
use Rattle.pv_params.specs.Meaning.{SoFar, put, of_reference, of_parameter, of_declaration, Outcome, gives, Stops, ends, refused, of_section}
use Rattle.pv_params.specs.Meaning.{of_external, no_item, unread, Reads, stops, copies, meets_within, goes_on, expanded, Expands, expansion_of}
use Rattle.pv_params.specs.Meaning.{behind_head, blank_before}
use Rattle.pv_params.specs.Laws.{HasNothingToExpand}
use Rattle.pv_params.proofs.OneExpansion.{same_standing, end_item}
use Rattle.pv_params.proofs.SomeExpansion.{headed, comes}

holds_behind : (text more part : List ℕ) → ContainsBytes more part → ContainsBytes (text ++ more) part
holds_behind text more part h = record { before = text ++ h.before; after = h.after; whole = ap (λ l. text ++ l) h.whole ∙ sym (append_assoc text h.before (part ++ h.after)) }

holds_front : (text more part : List ℕ) → ContainsBytes text part → ContainsBytes (text ++ more) part
holds_front text more part h =
    record {
      before = h.before;
      after = h.after ++ more;
      whole = ap (λ l. l ++ more) h.whole
          ∙ append_assoc h.before (part ++ h.after) more ∙ ap (λ l. h.before ++ l)
          (append_assoc part h.after more);
    }

plain_behind : (text more : List ℕ) → HasNothingToExpand (text ++ more) → HasNothingToExpand more
plain_behind text more p = record { percentless = λ h. p.percentless (holds_behind text more (codes "%") h); sectionless = λ h. p.sectionless (holds_behind text more (codes "<![") h) }

plain_front : (text more : List ℕ) → HasNothingToExpand (text ++ more) → HasNothingToExpand text
plain_front text more p = record { percentless = λ h. p.percentless (holds_front text more (codes "%") h); sectionless = λ h. p.sectionless (holds_front text more (codes "<![") h) }

no_percent_there : (xs ys : List ℕ) → HasNothingToExpand (xs ++ 37 ∷ ys) → ⊥
no_percent_there xs ys p = p.percentless record { before = xs; after = ys; whole = refl }

-- the modes in which such a file is read: its own, with no parameter declaration before, and Inside
abbrev Fits : Mode → List ℕ → Type 0
Fits (file true) rest = ⊥
Fits (file false) rest = Unit {0}
Fits between rest = ⊥
Fits inside rest = AreItems SpellsInside rest
Fits value rest = ⊥

-- all of the rest was copied
record Copied (o : Outcome) (before : SoFar) (rest : List ℕ) : Type 0 where
  after : SoFar
  is : o ≡ gives after
  result : after.result ≡ before.result ++ rest

percent_first : (xs rest : List ℕ) → HasNothingToExpand rest → rest ≡ codes "%" ++ xs → ⊥
percent_first xs rest p e = no_percent_there [] xs (subst HasNothingToExpand e p)

no_reference : (mode : Mode) (rest : List ℕ) (name more : List ℕ) → Fits mode rest → HasNothingToExpand rest → StandsAt mode rest (reference name) more → ⊥
no_reference (file true) rest name more f p s = f
no_reference (file false) rest name more f p s = percent_first ((name ++ codes ";") ++ more) rest p (s.whole ∙ ap (λ l. l ++ more) s.spelled.whole)
no_reference between rest name more f p s = f
no_reference inside rest name more f p s = percent_first ((name ++ codes ";") ++ more) rest p (s.whole ∙ ap (λ l. l ++ more) s.spelled.whole)
no_reference value rest name more f p s = f

no_parameter : (mode : Mode) (rest : List ℕ) (name given more : List ℕ) → Fits mode rest → HasNothingToExpand rest → StandsAt mode rest (parameter name given) more → ⊥
no_parameter (file true) rest name given more f p s = f
no_parameter (file false) rest name given more f p s =
    let q = s.spelled in
    let tail = q.after ++ (name ++ (q.behind ++ (q.quoted ++ (q.end ++ codes ">")))) in
    let whole : s.text ≡ (codes "<!ENTITY" ++ q.before) ++ 37 ∷ tail = q.whole ∙ sym (append_assoc (codes "<!ENTITY") q.before (37 ∷ tail)) in
    no_percent_there (codes "<!ENTITY" ++ q.before) tail (subst HasNothingToExpand whole (plain_front s.text more (subst HasNothingToExpand s.whole p)))
no_parameter between rest name given more f p s = f
no_parameter inside rest name given more f p s = s.spelled
no_parameter value rest name given more f p s = f

no_external : (rest : List ℕ) → HasNothingToExpand rest → IsExternal rest → ⊥
no_external rest p x =
    let tail = x.after ++ (x.name ++ (x.behind ++ (x.word ++ x.more))) in
    let whole : rest ≡ (codes "<!ENTITY" ++ x.before) ++ 37 ∷ tail = x.whole ∙ sym (append_assoc (codes "<!ENTITY") x.before (37 ∷ tail)) in
    no_percent_there (codes "<!ENTITY" ++ x.before) tail (subst HasNothingToExpand whole p)

some_item : (rest : List ℕ) → AreItems SpellsInside rest → rest ≢ [] → ((i : TextItem) (more : List ℕ) → StandsAt inside rest i more → ⊥) → ⊥
some_item rest (nothing e) some none = some e
some_item rest (item i front behind s below e) some none = none i behind record { text = front; spelled = s; whole = e }

items_behind : (rest : List ℕ) (i : TextItem) (more : List ℕ) → AreItems SpellsInside rest → StandsAt inside rest i more → AreItems SpellsInside more
items_behind rest i more (nothing e) s = absurd (end_item e s)
items_behind rest i more (item j front behind z below e) s = subst (AreItems SpellsInside) (sym (same_standing s record { text = front; spelled = z; whole = e }).1) below

same_mode : {x y : Bool} → file x ≡ file y → x ≡ y
same_mode e = cc

stopped : (mode : Mode) (reading : List (List ℕ)) (before : SoFar) (rest : List ℕ) {o : Outcome} → Fits mode rest → HasNothingToExpand rest → Stops mode reading before rest o → Copied o before rest
stopped mode reading before rest f p (ends e) = record { after = before; is = refl; result = sym (append-nil before.result) ∙ ap (λ l. before.result ++ l) (sym e) }
stopped mode reading before rest f p (refused {name} {more} s r) = absurd (no_reference mode rest name more f p s)
stopped mode reading before rest f p (of_section b (more, e)) = absurd (p.sectionless record { before = []; after = more; whole = e })
stopped mode reading before rest f p (of_external b x) = absurd (no_external rest p x)
stopped (file after) reading before rest f p (no_item e b) = absurd e
stopped between reading before rest f p (no_item e b) = absurd f
stopped inside reading before rest f p (no_item e b) = absurd (some_item rest f b.some b.no_item)
stopped value reading before rest f p (no_item e b) = absurd f
stopped (file true) reading before rest f p (unread e b) = absurd f
stopped (file false) reading before rest f p (unread {after_parameter} e b) =
    record {
      after = put (blank_before after_parameter ++ rest) before;
      is = refl;
      result = ap (λ x. before.result ++ (blank_before x ++ rest)) (sym (same_mode e));
    }
stopped between reading before rest f p (unread e b) = absurd f
stopped inside reading before rest f p (unread e b) = cc
stopped value reading before rest f p (unread e b) = absurd f

-- an item that is put stands there as it is
put_as_it_is : (mode : Mode) (rest bytes more : List ℕ) → Fits mode rest → StandsAt mode rest (puts bytes) more → rest ≡ bytes ++ more
put_as_it_is (file true) rest bytes more f s = absurd f
put_as_it_is (file false) rest bytes more f s = s.whole ∙ ap (λ l. l ++ more) (sym s.spelled.0)
put_as_it_is between rest bytes more f s = absurd f
put_as_it_is inside rest bytes more f s = s.whole ∙ ap (λ l. l ++ more) (sym s.spelled.0)
put_as_it_is value rest bytes more f s = absurd f

fits_behind : (mode : Mode) (rest : List ℕ) (i : TextItem) (more : List ℕ) → Fits mode rest → StandsAt mode rest i more → Fits mode more
fits_behind (file true) rest i more f s = f
fits_behind (file false) rest i more f s = tt
fits_behind between rest i more f s = f
fits_behind inside rest i more f s = items_behind rest i more f s
fits_behind value rest i more f s = f

record Declared (rest word held more : List ℕ) : Type 0 where
  are_items : AreItems SpellsInside held
  whole : rest ≡ word ++ (held ++ (codes ">" ++ more))

declared : (mode : Mode) (rest word held more : List ℕ) → Fits mode rest → StandsAt mode rest (declaration word held) more → Declared rest word held more
declared (file true) rest word held more f s = absurd f
declared (file false) rest word held more f s =
    record {
      are_items = s.spelled.is_inside.are_items;
      whole = s.whole
          ∙ ap (λ l. l ++ more) s.spelled.whole ∙ append_assoc word (held ++ codes ">") more
          ∙ ap (λ l. word ++ l) (append_assoc held (codes ">") more);
    }
declared between rest word held more f s = absurd f
declared inside rest word held more f s = absurd s.spelled
declared value rest word held more f s = absurd f

joined : (before word held more result : List ℕ) → result ≡ (before ++ word) ++ held → (result ++ codes ">") ++ more ≡ before ++ (word ++ (held ++ (codes ">" ++ more)))
joined before word held more result e = rw e (simp append_assoc refl)

same_after : {a b : SoFar} → gives a ≡ gives b → a ≡ b
same_after e = cc

copy_up_to : {mode : Mode} {reading : List (List ℕ)} {before : SoFar} {rest : List ℕ} {o : Outcome} → Reads mode reading before rest o → Fits mode rest → HasNothingToExpand rest → Copied o before rest
copy_up_to {mode} {reading} {before} {rest} (stops s) f p = stopped mode reading before rest f p s
copy_up_to {mode} {reading} {before} {rest} (copies {bytes} {more} s r) f p =
    let whole = put_as_it_is mode rest bytes more f s in
    let others = copy_up_to r (fits_behind mode rest (puts bytes) more f s) (plain_behind bytes more (subst HasNothingToExpand whole p)) in
    record { after = others.after; is = others.is; result = others.result ∙ append_assoc before.result bytes more ∙ ap (λ l. before.result ++ l) (sym whole) }
copy_up_to {mode} {reading} {before} {rest} (meets_within (of_reference {name} {text} {more} s n) r) f p = absurd (no_reference mode rest name more f p s)
copy_up_to {mode} {reading} {before} {rest} (meets_within (of_parameter {name} {text} {more} s) r) f p = absurd (no_parameter mode rest name text more f p s)
copy_up_to {mode} {reading} {before} {rest} (meets_within (of_declaration {word} {text} {more} s) r) f p =
    let d = declared mode rest word text more f s in
    let inner = copy_up_to r d.are_items (plain_front text (codes ">" ++ more) (plain_behind word (text ++ (codes ">" ++ more)) (subst HasNothingToExpand d.whole p))) in
    let never = inner.is in cc
copy_up_to {mode} {reading} {before} {rest} (goes_on (of_reference {name} {text} {more} s n) r k) f p = absurd (no_reference mode rest name more f p s)
copy_up_to {mode} {reading} {before} {rest} (goes_on (of_parameter {name} {text} {more} s) r k) f p = absurd (no_parameter mode rest name text more f p s)
copy_up_to {mode} {reading} {before} {rest} (goes_on {after} (of_declaration {word} {text} {more} s) r k) f p =
    let d = declared mode rest word text more f s in
    let behind_word = plain_behind word (text ++ (codes ">" ++ more)) (subst HasNothingToExpand d.whole p) in
    let inner = copy_up_to r d.are_items (plain_front text (codes ">" ++ more) behind_word) in
    let is : after.result ≡ (before.result ++ word) ++ text = ap (λ (n : SoFar). n.result) (same_after inner.is) ∙ inner.result in
    let others = copy_up_to k (fits_behind mode rest (declaration word text) more f s) (plain_behind (codes ">") more (plain_behind text (codes ">" ++ more) behind_word)) in
    record { after = others.after; is = others.is; result = others.result ∙ joined before.result word text more after.result is ∙ ap (λ l. before.result ++ l) (sym d.whole) }

pub unchanged : (bytes : List ℕ) → HasNothingToExpand bytes → Expands bytes (expanded bytes)
unchanged bytes plain =
    let h = headed bytes in
    let c = comes (file false) [] (behind_head h.head) h.rest in
    let all = copy_up_to c.reads tt (plain_behind h.head h.rest (subst HasNothingToExpand h.has_head.whole plain)) in
    record { head = h.head; rest = h.rest; outcome = c.outcome; has_head = h.has_head; reads = c.reads; is_expansion = ap expanded (h.has_head.whole ∙ sym all.result) ∙ ap expansion_of (sym all.is) }
