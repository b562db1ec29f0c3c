-- What counts tell of a word.
use Rattle.std.proofs.Common.{Bool, IfSome, IsTrue, List, None, Option, Some, [], length, map}
use Rattle.std.proofs.Common.{subst, sym, ℕ, ◌∷◌, ◌≡◌, ◌↔◌}
use Rattle.std.specs.List.{AllByRecursion}
use Rattle.std.proofs.lemmas.List.{length-map}
use Rattle.pv_model.specs.Plain.{PlainToken}
use Rattle.pv_model.specs.PlainForms.{plain_token}
use Rattle.pv_model.specs.declared.models.Token.{Token}
use Rattle.pv_dtd.specs.Plain.{PlainDtd}
use Rattle.pv_dtd.specs.Proper.{IsProperDtd}
use Rattle.pv_rules.specs.SiteDerivations.{DerivesAt}
use Rattle.pv_rules.specs.Sites.{content_site}
use Rattle.pv_missing.proofs.PossibleSites.{content_possible}
use Rattle.pv_missing.specs.FilledWords.{IsPossible}
use Rattle.pv_missing.specs.LiveWords.{AreProductiveTokens}
use Rattle.pv_reach.specs.TokensTaken.{ContentTakes, IsFreeContent}
use Rattle.pv_rematch.specs.Counts.{AreWithout}
use Rattle.pv_rematch.proofs.TokenNumbers.{all_of_none, none_of_all}
use Rattle.pv_verdicts.specs.TokenCounts.{IsTakenToken}

-- tokens that are taken are those of productive names that the content takes
all_takes : (g : PlainDtd) (x : ℕ) (w : List PlainToken) → AllByRecursion (IsTakenToken g x) w →
    AllByRecursion (ContentTakes g x) w
all_takes g x [] a = tt
all_takes g x (t ∷ w) a = (a.0.1, all_takes g x w a.1)

all_taken : (g : PlainDtd) (x : ℕ) (w : List PlainToken) → AreProductiveTokens g w →
    AllByRecursion (ContentTakes g x) w → AllByRecursion (IsTakenToken g x) w
all_taken g x [] p a = tt
all_taken g x (t ∷ w) p a = ((p.0, a.0), all_taken g x w p.1 a.1)

-- free content derives a word of productive names exactly where each token is taken
pub free_derives : (g : PlainDtd) (x : ℕ) (word : List Token) (n : ℕ) (b : Bool) →
    IsTrue b ↔ (n ≡ 0) → AreProductiveTokens g (map plain_token word) →
    IsFreeContent g x × AreWithout (IsTakenToken g x) (map plain_token word) n →
    IsTrue b ↔ DerivesAt g (map plain_token word) (content_site x) 0 (length word)
free_derives g x word n b iff p h =
    let w = map plain_token word in
    let D : ℕ → Type 0 = λ k. DerivesAt g w (content_site x) 0 k in
    let long : length w ≡ length word = length-map word plain_token in (
      (λ t. subst D long
          ((h.0 w p).1 (all_takes g x w (all_of_none (IsTakenToken g x) w n (iff.0 t) h.1)))),
      (λ d. iff.1 (none_of_all (IsTakenToken g x) w n
          (all_taken g x w p ((h.0 w p).0 (subst D (sym long) d))) h.1)),
    )

-- a word of productive names is possible exactly where the content derives it
pub possible_answer : (g : PlainDtd) (x : ℕ) (word : List Token) (b : Bool) → IsProperDtd g →
    AreProductiveTokens g (map plain_token word) →
    IsTrue b ↔ DerivesAt g (map plain_token word) (content_site x) 0 (length word) →
    IsTrue b ↔ IsPossible g x (map plain_token word)
possible_answer g x word b proper p iff =
    let w = map plain_token word in
    let D : ℕ → Type 0 = λ k. DerivesAt g w (content_site x) 0 k in
    let long : length w ≡ length word = length-map word plain_token in (
      (λ t. (content_possible g w proper p x).0 (subst D (sym long) (iff.0 t))),
      (λ q. iff.1 (subst D long ((content_possible g w proper p x).1 q))),
    )

-- what holds of a value holds of that which it is
pub told_of : (P : ℕ → Type 0) (o : Option ℕ) (n : ℕ) → o ≡ Some n → IfSome o P → P n
told_of P None n e h = absurd cc
told_of P (Some m) n e h = let z : m ≡ n = cc in subst P z h
