-- What a text begins with, where white space stands in front.
use Rattle.std.proofs.Common.{◌≡◌, ℕ, List, [], ◌∷◌, ◌++◌, Bool, true, false, ◌||◌, ◌==◌, refl, sym, subst}
use Rattle.std.proofs.lemmas.Bool.Decides.{Decides-eqb}
use Rattle.std.specs.List.{list_all}
use Rattle.std.proofs.lemmas.Bool.{and_parts}
use Rattle.pv_chars.specs.Spaces.{is_space, IsSpace, IsOptionalSpace}
use Rattle.pv_chars.proofs.TextScans.{begins}

-- none of the four white characters is one of these
pub record HasNoSpace (p : ℕ → Bool) : Type 0 where
  pub space : p 32 ≡ false
  pub tab : p 9 ≡ false
  pub return : p 13 ≡ false
  pub feed : p 10 ≡ false

no_space_by : (p : ℕ → Bool) → HasNoSpace p → (b : ℕ) (space tab return feed : Bool) →
    (b == 32) ≡ space → (b == 9) ≡ tab → (b == 13) ≡ return → (b == 10) ≡ feed →
    (space || tab || return || feed) ≡ true → p b ≡ false
no_space_by p none b true tab return feed e f g h white = subst (λ c. p c ≡ false) (sym ((Decides-eqb b 32).0 e)) none.space
no_space_by p none b false true return feed e f g h white = subst (λ c. p c ≡ false) (sym ((Decides-eqb b 9).0 f)) none.tab
no_space_by p none b false false true feed e f g h white = subst (λ c. p c ≡ false) (sym ((Decides-eqb b 13).0 g)) none.return
no_space_by p none b false false false true e f g h white = subst (λ c. p c ≡ false) (sym ((Decides-eqb b 10).0 h)) none.feed
no_space_by p none b false false false false e f g h white = cc

pub no_space : (p : ℕ → Bool) → HasNoSpace p → (b : ℕ) → is_space b ≡ true → p b ≡ false
no_space p none b white = no_space_by p none b (b == 32) (b == 9) (b == 13) (b == 10) refl refl refl refl white

-- what begins no text doesn't begin it after space either
pub begins_behind : (p : ℕ → Bool) → HasNoSpace p → (space rest : List ℕ) → IsOptionalSpace space → begins p rest ≡ false → begins p (space ++ rest) ≡ false
begins_behind p none [] rest s e = e
begins_behind p none (b ∷ bs) rest s e = no_space p none b (and_parts (is_space b) (list_all is_space bs) s).0

pub begins_in_space : (p : ℕ → Bool) → HasNoSpace p → (space rest : List ℕ) → IsSpace space → begins p (space ++ rest) ≡ false
begins_in_space p none [] rest s = absurd (s.some refl)
begins_in_space p none (b ∷ bs) rest s = no_space p none b (and_parts (is_space b) (list_all is_space bs) s.space).0

-- a byte of one kind and none of the other
pub unlike : (p : ℕ → Bool) (b : ℕ) (c : Bool) (other : ℕ → Bool) → p b ≡ true → (other b ≡ true → p b ≡ false) → other b ≡ c → c ≡ false
unlike p b true other is apart e = let never = apart e in cc
unlike p b false other is apart e = refl
