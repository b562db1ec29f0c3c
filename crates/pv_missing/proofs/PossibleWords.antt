-- The other laws.
use Rattle.std.proofs.Common.{List, [], ap, append-nil, refl, ℕ, ◌++◌, ◌∙◌, ◌∷◌, ◌≡◌}
use Rattle.pv_model.specs.Plain.{PlainToken, named, text}
use Rattle.pv_dtd.specs.Plain.{PlainDtd}
use Rattle.pv_missing.specs.Covers.{Covers, IsPossibleWith}
use Rattle.pv_missing.specs.FilledWords.{Pieces, StandsFor}
use Rattle.pv_missing.specs.WordLaws.{DepthsAgree, Doubled, LeftOut, OwnerIsProductive}
use Rattle.pv_missing.proofs.Depth.{Deep, cover_deep, fills_possible, possible_fills, stands_for_covers}
use Rattle.pv_missing.proofs.LeftOutNames.{Lessened, Texts_refl, lessen, possible_part}
use Rattle.pv_missing.proofs.LeftOutNames.{possible_productive}
use Rattle.pv_missing.proofs.Repeats.{Omits, Texts, omit_drop, omit_keep, omit_none, texts_again, texts_drop, texts_keep}
use Rattle.pv_missing.proofs.Texts.{Retexted, no_texts, possible_texts, retext}

stands_for_of : (g : PlainDtd) (x : ℕ) (w : List PlainToken) → Deep g (named x ∷ []) w → (d : ℕ) × StandsFor g d x w
stands_for_of g x w c = (c.depth, whole c.pieces)
  where
    whole : Pieces (StandsFor g c.depth) (named x ∷ []) w → StandsFor g c.depth x w
    whole (w1, w2, e, h, z) = let q : w ≡ w1 = e ∙ ap (λ v. w1 ++ v) z ∙ append-nil w1 in rw q h

pub depths : DepthsAgree
depths g x w = (
  ((λ p. fills_possible g p.0 x w p.1), (λ p. possible_fills g x p.0 w p.1)),
  ((λ p. let c = stands_for_covers g p.0 x w p.1 in (c.n, c.covers)), (λ p. stands_for_of g x w (cover_deep g p.0 (named x ∷ []) w p.1))),
)

part_refl : (w : List PlainToken) → Omits w w
part_refl [] = omit_none
part_refl (t ∷ w) = omit_keep t w w (part_refl w)

part_at : (a b : List PlainToken) (t : PlainToken) → Omits (a ++ (t ∷ b)) (a ++ b)
part_at [] b t = omit_drop t b b (part_refl b)
part_at (s ∷ a) b t = omit_keep s (a ++ (t ∷ b)) (a ++ b) (part_at a b t)

possible_omits : (g : PlainDtd) (x : ℕ) (a b : List PlainToken) (t : PlainToken) → ((n : ℕ) × IsPossibleWith g x n (a ++ t ∷ b)) →
    (n : ℕ) × IsPossibleWith g x n (a ++ b)
possible_omits g x a b t p = possible_part g x p.0 (a ++ t ∷ b) (a ++ b) (part_at a b t) p.1

root_omits : (g : PlainDtd) (x : ℕ) (w w' : List PlainToken) → Omits w w' → ((n : ℕ) × Covers g n (named x ∷ []) w) → (n : ℕ) × Covers g n (named x ∷ []) w'
root_omits g x w w' o p = go (lessen g p.0 (named x ∷ []) w p.1 w' o)
  where
    go : Lessened g (named x ∷ []) w' → (n : ℕ) × Covers g n (named x ∷ []) w'
    go s = (s.n, rw (no_texts (named x ∷ []) s.whole s.texts (x ∷ []) refl) at s.covers)

pub left_out : LeftOut
left_out g x a b t = (
  (λ p. (depths g x (a ++ b)).0.1 (possible_omits g x a b t ((depths g x (a ++ t ∷ b)).0.0 p))),
  (λ p. (depths g x (a ++ b)).1.1 (root_omits g x (a ++ t ∷ b) (a ++ b) (part_at a b t) ((depths g x (a ++ t ∷ b)).1.0 p))),
)

double_at : (a b : List PlainToken) → Texts (a ++ (text ∷ b)) (a ++ (text ∷ text ∷ b))
double_at [] b = texts_again b (text ∷ b) (texts_keep text b b (Texts_refl b))
double_at (s ∷ a) b = texts_keep s (a ++ (text ∷ b)) (a ++ (text ∷ text ∷ b)) (double_at a b)

merge_at : (a b : List PlainToken) → Texts (a ++ (text ∷ text ∷ b)) (a ++ (text ∷ b))
merge_at [] b = texts_drop (text ∷ b) (text ∷ b) (Texts_refl (text ∷ b))
merge_at (s ∷ a) b = texts_keep s (a ++ (text ∷ text ∷ b)) (a ++ (text ∷ b)) (merge_at a b)

root_texts : (g : PlainDtd) (x n : ℕ) (w w' : List PlainToken) → Texts w w' → Covers g n (named x ∷ []) w → Covers g n (named x ∷ []) w'
root_texts g x n w w' r c = go (retext g n (named x ∷ []) w c w' r)
  where
    go : Retexted g n (named x ∷ []) w' → Covers g n (named x ∷ []) w'
    go s = rw (no_texts (named x ∷ []) s.whole s.texts (x ∷ []) refl) at s.covers

pub doubled : Doubled
doubled g x n a b = (
  (
    (λ p. possible_texts g x n (a ++ text ∷ b) (a ++ text ∷ text ∷ b) (double_at a b) p),
    (λ p. possible_texts g x n (a ++ text ∷ text ∷ b) (a ++ text ∷ b) (merge_at a b) p),
  ),
  (
    (λ p. root_texts g x n (a ++ text ∷ b) (a ++ text ∷ text ∷ b) (double_at a b) p),
    (λ p. root_texts g x n (a ++ text ∷ text ∷ b) (a ++ text ∷ b) (merge_at a b) p),
  ),
)

pub owner_productive : OwnerIsProductive
owner_productive g x w proper p = let q = (depths g x w).0.0 p in possible_productive g proper x q.0 w q.1
