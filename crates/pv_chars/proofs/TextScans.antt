-- What the scanning functions say of a text and its parts: what they take is spelled so, and what is spelled so they take.
use Rattle.std.proofs.Common.{◌≡◌, ◌≢◌, Bor, ℕ, ◌+◌, List, [], ◌∷◌, ◌++◌, take, drop, Bool, true, false, ◌==◌, cond, Option, Some, None, refl, sym, ap, ◌∙◌, add-one, eq-eqb}
use Rattle.std.proofs.lemmas.Bool.Decides.{Decides-eqb}
use Rattle.std.specs.List.{list_all}
use Rattle.std.specs.Option.{MatchOption, option_map}
use Rattle.pv_chars.proofs.Options.{match_read}
use Rattle.std.proofs.lemmas.Bool.{and_parts}
pub use Rattle.pv_chars.specs.Spaces.{begins, TakesSpace, TakesBlank}
use Rattle.pv_chars.specs.Spaces.{is_space, IsSpace, IsOptionalSpace}
use Rattle.pv_chars.specs.Scan.{space_length, after_space, after_blank, after_bytes}

space_step : (b : ℕ) (bs : List ℕ) (white : Bool) → is_space b ≡ white → TakesSpace bs (after_space bs) → TakesSpace (b ∷ bs) (cond white (after_space bs) (b ∷ bs))
space_step b bs true is below = record { space = b ∷ below.space; optional = rw is below.optional; whole = ap (λ r. b ∷ r) below.whole; ends = below.ends }
space_step b bs false is below = record { space = []; optional = refl; whole = refl; ends = is }

pub after_space_takes : (bytes : List ℕ) → TakesSpace bytes (after_space bytes)
after_space_takes [] = record { space = []; optional = refl; whole = refl; ends = refl }
after_space_takes (b ∷ bs) = space_step b bs (is_space b) refl (after_space_takes bs)

after_step : (b : ℕ) (bs : List ℕ) (white : Bool) → drop (space_length bs) bs ≡ after_space bs → drop (cond white (space_length bs + 1) 0) (b ∷ bs) ≡ cond white (after_space bs) (b ∷ bs)
after_step b bs true below = rw add-one below
after_step b bs false below = refl

-- what stands after as many bytes as are white space
pub drop_space : (bytes : List ℕ) → drop (space_length bytes) bytes ≡ after_space bytes
drop_space [] = refl
drop_space (b ∷ bs) = after_step b bs (is_space b) (drop_space bs)

pub after_space-ended : (rest : List ℕ) → begins is_space rest ≡ false → after_space rest ≡ rest
after_space-ended [] e = refl
after_space-ended (b ∷ bs) e = rw e refl

pub after_space-append : (space rest : List ℕ) → IsOptionalSpace space → begins is_space rest ≡ false → after_space (space ++ rest) ≡ rest
after_space-append [] rest s e = after_space-ended rest e
after_space-append (b ∷ bs) rest s e = let white = and_parts (is_space b) (list_all is_space bs) s in rw white.0 (after_space-append bs rest white.1 e)

blank_step : (b : ℕ) (bs rest : List ℕ) (white : Bool) → is_space b ≡ white → cond white (Some (after_space bs)) None ≡ Some rest → TakesBlank (b ∷ bs) rest
blank_step b bs rest true is e =
    let below = after_space_takes bs in
    let same : after_space bs ≡ rest = cc in
    record { space = b ∷ below.space; some = record { some = λ none. cc; space = rw is below.optional }; whole = ap (λ r. b ∷ r) (rw (← same) below.whole); ends = rw (← same) below.ends }
blank_step b bs rest false is e = cc

pub after_blank_takes : (bytes rest : List ℕ) → after_blank bytes ≡ Some rest → TakesBlank bytes rest
unfolding after_blank
after_blank_takes [] rest e = cc
after_blank_takes (b ∷ bs) rest e = blank_step b bs rest (is_space b) refl e

pub after_blank-append : (space rest : List ℕ) → IsSpace space → begins is_space rest ≡ false → after_blank (space ++ rest) ≡ Some rest
unfolding after_blank
after_blank-append [] rest s e = absurd (s.some refl)
after_blank-append (b ∷ bs) rest s e = let white = and_parts (is_space b) (list_all is_space bs) s.space in rw (white.0, after_space-append bs rest white.1 e) refl

pub after_blank_none : (bytes : List ℕ) → after_blank bytes ≡ None → begins is_space bytes ≡ false
unfolding after_blank
after_blank_none [] e = refl
after_blank_none (b ∷ bs) e = by (is_space b) refl e
  where
    by : (white : Bool) → is_space b ≡ white → cond white (Some (after_space bs)) None ≡ None → is_space b ≡ false
    by true is f = cc
    by false is f = is

pub after_blank_tells : (bytes : List ℕ) → MatchOption (after_blank bytes) (begins is_space bytes ≡ false) (TakesBlank bytes)
after_blank_tells bytes = match_read (after_blank bytes) (begins is_space bytes ≡ false) (TakesBlank bytes) (after_blank_none bytes) (after_blank_takes bytes)

-- as many bytes as are white space, and no more
front_step : (b : ℕ) (bs : List ℕ) (white : Bool) → is_space b ≡ white →
    list_all is_space (take (space_length bs) bs) ≡ true →
    list_all is_space (take (cond white (space_length bs + 1) 0) (b ∷ bs)) ≡ true
front_step b bs true is below = rw add-one (rw is below)
front_step b bs false is below = refl

pub space_front : (bytes : List ℕ) → list_all is_space (take (space_length bytes) bytes) ≡ true
space_front [] = refl
space_front (b ∷ bs) = front_step b bs (is_space b) refl (space_front bs)

pub space_ends : (bytes : List ℕ) → begins is_space (drop (space_length bytes) bytes) ≡ false
space_ends bytes = rw (drop_space bytes) (after_space_takes bytes).ends

-- a white byte, and what stands after the white space after it
pub blank_where : (bytes more rest : List ℕ) (b : ℕ) → bytes ≡ b ∷ more → is_space b ≡ true → TakesSpace more rest → TakesBlank bytes rest
blank_where bytes more rest b e white taken =
    record {
      space = b ∷ taken.space;
      some = record { some = λ none. cc; space = rw white taken.optional };
      whole = e
          ∙ ap (λ l. b ∷ l) taken.whole;
      ends = taken.ends;
    }

after_byte : (p : ℕ) (ps : List ℕ) (b : ℕ) (bs rest : List ℕ) (same : Bool) → (p == b) ≡ same →
    cond same (after_bytes ps bs) None ≡ Some rest → (after_bytes ps bs ≡ Some rest →
    bs ≡ ps ++ rest) → b ∷ bs ≡ p ∷ (ps ++ rest)
after_byte p ps b bs rest true is e below = let at = (Decides-eqb p b).0 is in let after = below e in cc
after_byte p ps b bs rest false is e below = cc

pub after_bytes_takes : (front bytes rest : List ℕ) → after_bytes front bytes ≡ Some rest → bytes ≡ front ++ rest
after_bytes_takes [] bytes rest e = cc
after_bytes_takes (p ∷ ps) [] rest e = cc
after_bytes_takes (p ∷ ps) (b ∷ bs) rest e = after_byte p ps b bs rest (p == b) refl e (after_bytes_takes ps bs rest)

pub after_bytes-append : (front rest : List ℕ) → after_bytes front (front ++ rest) ≡ Some rest
after_bytes-append [] rest = refl
after_bytes-append (p ∷ ps) rest = rw (eq-eqb p p refl) (after_bytes-append ps rest)

pub after_bytes_is : (front bytes : List ℕ) (r : Option (Bor (List ℕ))) →
    MatchOption r ((rest : List ℕ) → bytes ≢ front ++ rest) (λ x. bytes ≡ front ++ x.now) →
    option_map (λ x. x.now) r ≡ after_bytes front bytes
after_bytes_is front bytes (Some x) e = rw e (sym (after_bytes-append front x.now))
after_bytes_is front bytes None none = by (after_bytes front bytes) refl
  where
    by : (o : Option (List ℕ)) → after_bytes front bytes ≡ o → None ≡ after_bytes front bytes
    by None e = sym e
    by (Some rest) e = absurd (none rest (after_bytes_takes front bytes rest e))

pub chosen : {A : Type 0} (test : Bool) (o : Option A) (y : A) → cond test o None ≡ Some y → (test ≡ true) × (o ≡ Some y)
chosen true o y e = (refl, e)
chosen false o y e = cc
