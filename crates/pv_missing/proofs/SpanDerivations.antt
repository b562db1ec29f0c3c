-- Derivations over all of a word, and what may stand there.
use Rattle.std.proofs.Common.{List, Some, [], append-nil, arith, length, refl, slice_get, suc, sym, zero, ℕ, ◌∷◌, ◌≡◌, ◌≤◌}
use Rattle.std.specs.List.{AllByRecursion}
use Rattle.pv_model.specs.Plain.{PlainToken, children}
use Rattle.pv_dtd.specs.Plain.{PlainDtd}
use Rattle.pv_rules.specs.Derivations.{Derives}
use Rattle.pv_rules.specs.Rules.{Rule, over}
use Rattle.pv_rules.specs.Sites.{PlainSite, content_site, name_site}
use Rattle.pv_dtd.specs.Proper.{IsFullModel, IsProperDtd}
use Rattle.pv_missing.specs.WordLaws.{ContentDerives, RootDerives}
use Rattle.pv_missing.proofs.CoverWeights.{possible_derives, root_derives}
use Rattle.pv_missing.proofs.CoversOfDerivations.{sound}
use Rattle.pv_missing.proofs.DerivationsByNumber.{from_word}
use Rattle.pv_missing.proofs.SpanContents.{Stands}
use Rattle.pv_missing.proofs.DerivationsByWord.{to_word}
use Rattle.pv_missing.proofs.WordDerivations.{AreFull, AtMost, of_content, of_name}

pub all_at : {A : Type 0} (P : A → Type 0) (xs : List A) (i : ℕ) (x : A) → AllByRecursion P xs → slice_get xs i ≡ Some x → P x
all_at P [] i x a e = absurd cc
all_at P (y ∷ ys) zero x a e = let p : y ≡ x = cc in rw p at a.0
all_at P (y ∷ ys) (suc i) x a e = all_at P ys i x a.1 e

pub full_models : (g : PlainDtd) → IsProperDtd g → AreFull g
full_models g proper x p e = all_at IsFullModel g.models x (children p) proper.full e

all_stands : (w : List PlainToken) → Stands w 0 (length w) w
all_stands w = record { front = []; back = []; is_word = sym (append-nil w); starts = refl; ends = omega arith }

-- a derivation over the whole word, of at most this weight
abbrev pub DerivesAtMost : PlainDtd → List PlainToken → ℕ → PlainSite → Type 0
DerivesAtMost g w n s = (m : ℕ) × (m ≤ n) × Derives (Rule g w) m (over s 0 (length w))

name_spanned : (g : PlainDtd) (w : List PlainToken) (n x : ℕ) → AtMost g n (of_name x) w → DerivesAtMost g w n (name_site x)
name_spanned g w n x a = (a.weight, a.is_most, from_word g w a.weight (of_name x) 0 (length w) w (all_stands w) a.derives)

content_spanned : (g : PlainDtd) (w : List PlainToken) (n x : ℕ) → AtMost g n (of_content x) w → DerivesAtMost g w n (content_site x)
content_spanned g w n x a = (a.weight, a.is_most, from_word g w a.weight (of_content x) 0 (length w) w (all_stands w) a.derives)

pub content_weights : ContentDerives
content_weights g x n w proper p = (
  (λ d. sound g n (of_content x) w (to_word g w n (content_site x) 0 (length w) w (all_stands w) d) p),
  (λ q. content_spanned g w n x (possible_derives g (full_models g proper) x n w q)),
)

pub root_weights : RootDerives
root_weights g x n w proper p = (
  (λ d. sound g n (of_name x) w (to_word g w n (name_site x) 0 (length w) w (all_stands w) d) p),
  (λ q. name_spanned g w n x (root_derives g (full_models g proper) x n w q)),
)
