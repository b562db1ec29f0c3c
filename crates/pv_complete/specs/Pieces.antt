-- A completion of a list, piece by piece.
use Rattle.std.specs.Prelude.{List, Some, [], suc, ℕ, ◌+◌, ◌++◌, ◌∷◌, ◌≡◌}
use Rattle.pv_model.specs.Plain.{PlainModel, PlainToken, named, text}
use Rattle.pv_model.specs.Models.{Allows}
use Rattle.pv_dtd.specs.Plain.{PlainDtd, declared, model_of}
use Rattle.pv_rules.specs.Sites.{PlainSite, content_site, name_site, part_site, rest_site}
use Rattle.pv_write.specs.Pieces.{PlainPiece, finish, kept, start}

-- The pieces make the word w, of which each token is kept, into the word u, by n new elements, of
-- which each has content that its model allows.
pub data Writes (g : PlainDtd) : ℕ → List PlainToken → List PlainToken → List PlainPiece →
    Type 0 where
  write_none : (n : ℕ) → n ≡ 0 → Writes g n [] [] []
  write_text : (n : ℕ) (u w : List PlainToken) (ps : List PlainPiece) → Writes g n u w ps →
      Writes g n (text ∷ u) (text ∷ w) (kept ∷ ps)
  write_kept : (n y : ℕ) (u w : List PlainToken) (ps : List PlainPiece) → Writes g n u w ps →
      Writes g n (named y ∷ u) (named y ∷ w) (kept ∷ ps)
  write_new : (n a b y : ℕ) (m : PlainModel) (v u w1 w2 w : List PlainToken)
      (one two ps : List PlainPiece) → n ≡ suc (a + b) → w ≡ w1 ++ w2 →
      ps ≡ start y ∷ (one ++ finish y ∷ two) → model_of g y ≡ Some m → Allows (declared g) m v →
      Writes g a v w1 one → Writes g b u w2 two → Writes g n (named y ∷ u) w ps

-- they make w into a word that the model of element number x allows
pub record WritesContent (g : PlainDtd) (x n : ℕ) (w : List PlainToken) (ps : List PlainPiece) :
    Type 0 where
  pub model : PlainModel
  pub is_model : model_of g x ≡ Some model
  pub whole : List PlainToken
  pub allowed : Allows (declared g) model whole
  pub writes : Writes g n whole w ps

-- they make w into what stands at the site of an owner
abbrev pub WritesAt : PlainDtd → PlainSite → ℕ → List PlainToken → List PlainPiece → Type 0
WritesAt g (name_site x) n w ps = Writes g n (named x ∷ []) w ps
WritesAt g (content_site x) n w ps = WritesContent g x n w ps
WritesAt g (part_site q) n w ps = ⊥
WritesAt g (rest_site q) n w ps = ⊥
