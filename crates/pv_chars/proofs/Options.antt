-- What a function answers, told of what its answer points to.
use Rattle.std.proofs.Common.{◌≡◌, Option, Some, None, false, refl, sym, subst}
use Rattle.std.specs.Option.{option_map, MatchOption, IfSome, is_some}

match_map : {A B : Type 0} (f : A → B) (r : Option A) (P : Type 0) (Q : B → Type 0) → MatchOption (option_map f r) P Q → MatchOption r P (λ x. Q (f x))
match_map f None P Q h = h
match_map f (Some x) P Q h = h

-- what holds of an answer in plain terms holds of the answer
pub match_mapped : {A B : Type 0} (f : A → B) (r : Option A) (o : Option B) (P : Type 0) (Q : B → Type 0) → option_map f r ≡ o → MatchOption o P Q → MatchOption r P (λ x. Q (f x))
match_mapped {A} {B} f r o P Q e h = let M : Option B → Type 0 = λ v. MatchOption v P Q in match_map f r P Q (subst M (sym e) h)

-- by what a reading function gives
pub match_read : {B : Type 0} (o : Option B) (P : Type 0) (Q : B → Type 0) → (o ≡ None → P) → ((x : B) → o ≡ Some x → Q x) → MatchOption o P Q
match_read None P Q none some = none refl
match_read (Some x) P Q none some = some x refl

-- what follows from it
pub match_some : {A : Type 0} (r : Option A) (P : Type 0) (Q R : A → Type 0) → ((x : A) → Q x → R x) → MatchOption r P Q → IfSome r R
match_some None P Q R f h = tt
match_some (Some x) P Q R f h = f x h

-- by a question mark where there is nothing
pub match_none : {A : Type 0} (r : Option A) (P : Type 0) (Q : A → Type 0) → r ≡ None → P → MatchOption r P Q
match_none {A} r P Q e p = let M : Option A → Type 0 = λ v. MatchOption v P Q in subst M (sym e) p

pub match_same : {A : Type 0} (r : Option A) (P P' : Type 0) (Q Q' : A → Type 0) → (P → P') → ((x : A) → Q x → Q' x) → MatchOption r P Q → MatchOption r P' Q'
match_same None P P' Q Q' f g h = f h
match_same (Some x) P P' Q Q' f g h = g x h

-- where nothing was found
pub match_not_some : {A : Type 0} (r : Option A) (P : Type 0) (Q : A → Type 0) → is_some r ≡ false → MatchOption r P Q → P
match_not_some None P Q e h = h
match_not_some (Some x) P Q e h = cc
