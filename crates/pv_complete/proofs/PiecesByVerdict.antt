-- The pieces of a list by its verdict.
use Rattle.std.proofs.Common.{Global, List, None, Option, Some, Vec, [], ap, append-nil}
use Rattle.std.proofs.Common.{append_assoc, drop, false, inl, inr, map, refl, subst, suc}
use Rattle.std.proofs.Common.{true, zero, zero-add, ℕ, ◌++◌, ◌+◌, ◌∙◌, ◌∷◌, ◌≡◌, ◌≢◌}
use Rattle.std.specs.List.{AllByRecursion}
use Rattle.pv_model.specs.Plain.{PlainModel, PlainToken, any, children, empty, mixed, named, other, text}
use Rattle.pv_model.specs.Models.{Allows, IsOfAny, IsOfMixed}
use Rattle.pv_dtd.specs.Plain.{PlainDtd, declared, model_of, number_of}
use Rattle.pv_tree.specs.Lists.{IsOwnValid, IsRootList, IsValidBy, Listed, Owner, an_element, the_document}
use Rattle.pv_tree.specs.Plain.{Forest, cdata_node, element, misc_node, no_trees, text_node, tree}
use Rattle.pv_tree.specs.Words.{word_of}
use Rattle.pv_tree.specs.declared.nodes.Mark.{Mark}
use Rattle.pv_tree.specs.declared.nodes.Verdict.{Verdict}
use Rattle.pv_tree.specs.declared.nodes.Verdict.TheVariants as verdict
use Rattle.pv_rules.specs.Derivations.{IsWeight}
use Rattle.pv_rules.specs.Rules.{Rule}
use Rattle.pv_rules.specs.Sites.{PlainSite, content_site, name_site}
use Rattle.pv_missing.specs.LiveWords.{IsLiveWord}
use Rattle.pv_missing.specs.Verdicts.{AreVerdicts, IsLiveBy, IsVerdict}
use Rattle.pv_missing.specs.ListWeights.{site_of, whole}
use Rattle.pv_missing.proofs.LiveFacts.{live_follows}
use Rattle.pv_missing.proofs.OneLiveWord.{one_live_word}
use Rattle.pv_tables.proofs.WeightSums.{same_word}
use Rattle.pv_complete.specs.Loads.{UsesVerdict}
use Rattle.pv_write.specs.Pieces.{PlainPiece}
use Rattle.pv_complete.specs.Pieces.{Writes, WritesAt, WritesContent, write_kept, write_none}
use Rattle.pv_complete.specs.Pieces.{write_text}
use Rattle.pv_write.specs.PieceForms.{plain_lists, plain_pieces}
use Rattle.pv_complete.specs.ListPieces.{AreNextPieces, AreNotImpossible, ArePieces, HaveFound}
use Rattle.pv_complete.specs.ListPieces.{kept_for}
use Rattle.pv_write.specs.declared.pieces.Piece.{Piece}

-- ---- a valid list's pieces
module _ (g : PlainDtd) where
  any_kept : (w : List PlainToken) → AllByRecursion (IsOfAny (declared g)) w → Writes g 0 w w (kept_for w)
  any_kept [] a = write_none 0 refl
  any_kept (named y ∷ w) a = write_kept 0 y w w (kept_for w) (any_kept w a.1)
  any_kept (text ∷ w) a = write_text 0 w w (kept_for w) (any_kept w a.1)
  any_kept (other ∷ w) a = absurd a.0

  mixed_kept : (ys : List ℕ) (w : List PlainToken) → AllByRecursion (IsOfMixed ys) w → Writes g 0 w w (kept_for w)
  mixed_kept ys [] a = write_none 0 refl
  mixed_kept ys (named y ∷ w) a = write_kept 0 y w w (kept_for w) (mixed_kept ys w a.1)
  mixed_kept ys (text ∷ w) a = write_text 0 w w (kept_for w) (mixed_kept ys w a.1)
  mixed_kept ys (other ∷ w) a = absurd a.0

  names_kept : (us : List ℕ) → Writes g 0 (map named us) (map named us) (kept_for (map named us))
  names_kept [] = write_none 0 refl
  names_kept (y ∷ us) = write_kept 0 y (map named us) (map named us) (kept_for (map named us)) (names_kept us)

  allowed_kept : (m : PlainModel) (w : List PlainToken) → Allows (declared g) m w → Writes g 0 w w (kept_for w)
  allowed_kept empty w a = rw a (write_none 0 refl)
  allowed_kept any w a = any_kept w a
  allowed_kept (mixed ys) w a = mixed_kept ys w a
  allowed_kept (children p) w (us, e, m) = rw e (names_kept us)

  -- where the kids fit as they are, nothing is new
  content_kept : (x : List ℕ) (y : ℕ) (kids : Forest Mark) → number_of g x ≡ Some y → IsOwnValid g (number_of g x) kids → WritesContent g y 0 (word_of g kids) (kept_for (word_of g kids))
  content_kept x y kids e v = record {
    model = v.model;
    is_model = let i = v.is_owner in let same : v.number ≡ y = cc in rw same at v.is_model;
    whole = word_of g kids;
    allowed = v.allowed;
    writes = allowed_kept v.model (word_of g kids) v.allowed;
  }

  root_kept : (root : List ℕ) (y : ℕ) (kids : Forest Mark) → number_of g root ≡ Some y → IsRootList root kids → Writes g 0 (named y ∷ []) (word_of g kids) (kept_for (word_of g kids))
  root_kept root y no_trees e v = absurd v
  root_kept root y (tree (element x a f k m) rest) e v =
      let is = v.0 in let none = v.1 in
      rw (none, is, e) (write_kept 0 y [] [] [] (write_none 0 refl))
  root_kept root y (tree (text_node us) rest) e v = absurd v.0
  root_kept root y (tree (cdata_node b) rest) e v = absurd v.0
  root_kept root y (tree (misc_node b) rest) e v = absurd v.0

  -- the pieces at the owner's site
  pub valid_pieces : (root : List ℕ) (o : Owner) (s : PlainSite) (kids : Forest Mark) →
      site_of g root o ≡ Some s → IsValidBy g root o kids →
      WritesAt g s 0 (word_of g kids) (kept_for (word_of g kids))
  valid_pieces root the_document s kids e v = at_root (number_of g root) refl e
    where
      at_root : (n : Option ℕ) → number_of g root ≡ n → site_of g root the_document ≡ Some s → WritesAt g s 0 (word_of g kids) (kept_for (word_of g kids))
      at_root None f h = absurd (let q = rw f at h in cc)
      at_root (Some y) f h = let q : name_site y ≡ s = let r = rw f at h in cc in subst (λ t. WritesAt g t 0 (word_of g kids) (kept_for (word_of g kids))) q (root_kept root y kids f v)
  valid_pieces root (an_element x) s kids e v = in_element (number_of g x) refl e
    where
      in_element : (n : Option ℕ) → number_of g x ≡ n → site_of g root (an_element x) ≡ Some s → WritesAt g s 0 (word_of g kids) (kept_for (word_of g kids))
      in_element None f h = absurd (let q = rw f at h in cc)
      in_element (Some y) f h = let q : content_site y ≡ s = let r = rw f at h in cc in subst (λ t. WritesAt g t 0 (word_of g kids) (kept_for (word_of g kids))) q (content_kept x y kids f v)

  -- the live word of a live list is its word
  pub live_is_word : (root : List ℕ) (o : Owner) (kids : Forest Mark) (live : List PlainToken) → IsLiveBy g root o kids → IsLiveWord g (word_of g kids) live → live ≡ word_of g kids
  live_is_word root o kids live l is = same_word live_follows one_live_word Mark g root o kids live l is

pub not_at : (vs : List Verdict) (k : ℕ) (v : Verdict) (rest : List Verdict) → AreNotImpossible vs → drop k vs ≡ v ∷ rest → v ≢ verdict.Impossible
not_at vs zero v rest a e = let P : List Verdict → Type 0 = AreNotImpossible in let b = subst P e a in b.0
not_at [] (suc k) v rest a e = absurd cc
not_at (u ∷ vs) (suc k) v rest a e = not_at vs k v rest a.1 e

module _ (g : PlainDtd) (root : List ℕ) (list : Listed Mark) (more : List (Listed Mark)) (vs : List Verdict) (old new : ℕ) where
  -- a Possible list
  pub possible_pieces : (s : PlainSite) (n : ℕ) (live : List PlainToken) (ps : List PlainPiece) →
      UsesVerdict vs old new true → site_of g root list.owner ≡ Some s →
      IsLiveWord g (word_of g list.kids) live →
      IsWeight (Rule g live) (whole s live) n → WritesAt g s n live ps →
      AreVerdicts g root (list ∷ more) (drop old vs) →
      AreNextPieces g root list more vs old new ps
  possible_pieces s n live ps next site is weighs writes (u, rest, e, j, others) =
      let head : u ≡ verdict.Possible = cc (e, next) in
      let tail : rest ≡ drop new vs = cc (e, next) in
      let judged : IsVerdict g root list verdict.Possible = rw head at j in
      record {
        count = n;
        are = record {
          site = s;
          is_site = site;
          live = judged.0;
          all = ps;
          stand = inl refl;
          writes =
              let w = live_is_word g root list.owner list.kids live judged.0 is in rw w at writes;
        };
        left = rw tail at others;
        weigh = λ b w. rw next (n, b, refl, (s, live, site, is, weighs), w);
      }

  -- a Valid one
  pub kept_pieces : (s : PlainSite) (ps : List PlainPiece) → UsesVerdict vs old new false →
      AreNotImpossible vs → site_of g root list.owner ≡ Some s → ps ≡ [] →
      AreVerdicts g root (list ∷ more) (drop old vs) → AreNextPieces g root list more vs old new ps
  kept_pieces s ps (inl none) all site nothing (u, rest, e, j, others) = absurd cc
  kept_pieces s ps (inr (v, next, not)) all site nothing (u, rest, e, j, others) =
      let head : u ≡ v = cc (e, next) in
      let tail : rest ≡ drop new vs = cc (e, next) in
      let valid : v ≡ verdict.Valid = is_valid v not (not_at vs old v (drop new vs) all next) in
      let judged : IsVerdict g root list verdict.Valid = rw (head ∙ valid) at j in
      record {
        count = 0;
        are = record {
          site = s;
          is_site = site;
          live = judged.0;
          all = kept_for (word_of g list.kids);
          stand = inr (nothing, refl);
          writes = valid_pieces g root list.owner s list.kids site judged.1;
        };
        left = rw tail at others;
        weigh = λ b w. rw (next, valid, zero-add b) w;
      }
    where
      is_valid : (o : Verdict) → o ≢ verdict.Possible → o ≢ verdict.Impossible → o ≡ verdict.Valid
      is_valid verdict.Valid n m = refl
      is_valid verdict.Possible n m = absurd (n refl)
      is_valid verdict.Impossible n m = absurd (m refl)

-- ---- one list after the other
lists_more : (xs : List (Vec Piece Global)) (x : Vec Piece Global) →
    plain_lists (xs ++ x ∷ []) ≡ plain_lists xs ++ plain_pieces x.items ∷ []
lists_more [] x = refl
lists_more (y ∷ xs) x = ap (λ qs. plain_pieces y.items ∷ qs) (lists_more xs x)

module _ (g : PlainDtd) (root : List ℕ) (all : List (Listed Mark)) (vs : List Verdict) where
  pub found_none : AreVerdicts g root all vs → HaveFound g root all all vs 0 []
  found_none are = record { verdicts = are; goes_on = λ qs f. f }

  pub found_more : (list : Listed Mark) (rest : List (Listed Mark)) (old new : ℕ)
      (xs ys : List (Vec Piece Global)) (x : Vec Piece Global) → ys ≡ xs ++ x ∷ [] →
      HaveFound g root all (list ∷ rest) vs old (plain_lists xs) →
      (AreVerdicts g root (list ∷ rest) (drop old vs) →
      AreNextPieces g root list rest vs old new (plain_pieces x.items)) →
      HaveFound g root all rest vs new (plain_lists ys)
  found_more list rest old new xs ys x is h f =
      let next = f h.verdicts in
      record {
        verdicts = next.left;
        goes_on =
            λ qs a. rw (
              is,
              lists_more xs x,
              append_assoc (plain_lists xs)
                  (plain_pieces x.items ∷ []) qs,
            ) (h.goes_on (plain_pieces x.items ∷ qs) (record {
              sum = next.count + a.sum;
              have = (plain_pieces x.items, qs, next.count, a.sum, refl, refl, next.are, a.have);
              weigh = next.weigh a.sum a.weigh;
            }));
      }

  pub found_all : (used : ℕ) (qs : List (List PlainPiece)) → HaveFound g root all [] vs used qs →
      ArePieces g root all vs qs
  found_all used qs h =
      rw append-nil at (h.goes_on [] (record { sum = 0; have = refl; weigh = refl }))
