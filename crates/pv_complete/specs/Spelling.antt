-- How pieces are put together by the rules of the missing grammar.
use Rattle.std.specs.Prelude.{List, Some, [], length, slice_get, suc, ℕ, ◌+◌, ◌++◌, ◌<◌, ◌∷◌, ◌≡◌}
use Rattle.std.specs.Prelude.{◌≤◌, ◌⊎◌}
use Rattle.pv_model.specs.Plain.{PlainPart, PlainParts, PlainToken, any, children, choice, empty}
use Rattle.pv_model.specs.Plain.{mixed, name, named, no_parts, opt, part, plus, seq, star, text}
use Rattle.pv_dtd.specs.Plain.{IsDeclared, PlainDtd, model_of, parts_in}
use Rattle.pv_rules.specs.Numbering.{IsMemberAt, first_part, part_at, rest_at}
use Rattle.pv_rules.specs.Rules.{Goal, over}
use Rattle.pv_rules.specs.Sites.{PlainSite, content_site, name_site, part_site, rest_site}
use Rattle.pv_write.specs.Pieces.{PlainPiece, finish, kept, start}

-- elements of this name may hold data
abbrev pub HoldsData : PlainDtd → ℕ → Type 0
HoldsData g x = ((ys : List ℕ) × (model_of g x ≡ Some (mixed ys))) ⊎ (model_of g x ≡ Some any)

-- the site may stand for nothing
pub data MayBeNothing (g : PlainDtd) : PlainSite → Type 0 where
  empty_nothing : (x : ℕ) → model_of g x ≡ Some empty → MayBeNothing g (content_site x)
  data_nothing : (x : ℕ) → HoldsData g x → MayBeNothing g (content_site x)
  opt_nothing : (q : ℕ) (p : PlainPart) → part_at g q ≡ Some (opt p) → MayBeNothing g (part_site q)
  star_nothing : (q : ℕ) (p : PlainPart) → part_at g q ≡ Some (star p) →
      MayBeNothing g (part_site q)

-- the first site may stand for what the second stands for
pub data MayBeOne (g : PlainDtd) : PlainSite → PlainSite → Type 0 where
  children_one : (x : ℕ) (p : PlainPart) → model_of g x ≡ Some (children p) →
      MayBeOne g (content_site x) (part_site (first_part g x))
  name_one : (q y : ℕ) → part_at g q ≡ Some (name y) → MayBeOne g (part_site q) (name_site y)
  seq_one : (q : ℕ) (p : PlainPart) (ps : PlainParts) → part_at g q ≡ Some (seq (part p ps)) →
      MayBeOne g (part_site q) (rest_site (suc q))
  choice_one : (q r : ℕ) (p : PlainPart) (ps : PlainParts) → part_at g q ≡ Some (choice ps) →
      IsMemberAt p r (suc q) ps → MayBeOne g (part_site q) (part_site r)
  opt_one : (q : ℕ) (p : PlainPart) → part_at g q ≡ Some (opt p) →
      MayBeOne g (part_site q) (part_site (suc q))
  plus_one : (q : ℕ) (p : PlainPart) → part_at g q ≡ Some (plus p) →
      MayBeOne g (part_site q) (part_site (suc q))
  last_one : (q : ℕ) (p : PlainPart) → rest_at g q ≡ Some (part p no_parts) →
      MayBeOne g (rest_site q) (part_site q)

-- the first site may stand for what the second and the third stand for, one after the other
pub data MayBeTwo (g : PlainDtd) : PlainSite → PlainSite → PlainSite → Type 0 where
  mixed_two : (x e : ℕ) (ys : List ℕ) → model_of g x ≡ Some (mixed ys) → e < length ys →
      MayBeTwo g (content_site x) (part_site (first_part g x + e)) (content_site x)
  any_two : (x y : ℕ) → model_of g x ≡ Some any → IsDeclared g y →
      MayBeTwo g (content_site x) (name_site y) (content_site x)
  star_two : (q : ℕ) (p : PlainPart) → part_at g q ≡ Some (star p) →
      MayBeTwo g (part_site q) (part_site (suc q)) (part_site q)
  plus_two : (q : ℕ) (p : PlainPart) → part_at g q ≡ Some (plus p) →
      MayBeTwo g (part_site q) (part_site (suc q)) (part_site q)
  rest_two : (q : ℕ) (p r : PlainPart) (ps : PlainParts) → rest_at g q ≡ Some (part p (part r ps)) →
      MayBeTwo g (rest_site q) (part_site q) (rest_site (q + parts_in p))

-- the pieces, with n new elements, are what stands at a site over a span of the word
pub data SpellsSpan (g : PlainDtd) (w : List PlainToken) : ℕ → Goal → List PlainPiece → Type 0 where
  spell_kept : (n x i : ℕ) → n ≡ 0 → slice_get w i ≡ Some (named x) →
      SpellsSpan g w n (over (name_site x) i (suc i)) (kept ∷ [])
  spell_new : (n a x i j : ℕ) (ps qs : List PlainPiece) → n ≡ suc a →
      qs ≡ start x ∷ (ps ++ finish x ∷ []) →
      SpellsSpan g w a (over (content_site x) i j) ps → SpellsSpan g w n (over (name_site x) i j) qs
  spell_text : (n x i j : ℕ) (ps : List PlainPiece) → i < j → slice_get w i ≡ Some text →
      HoldsData g x →
      SpellsSpan g w n (over (content_site x) (suc i) j) ps →
      SpellsSpan g w n (over (content_site x) i j) (kept ∷ ps)
  spell_none : (n i : ℕ) (s : PlainSite) → n ≡ 0 → MayBeNothing g s →
      SpellsSpan g w n (over s i i) []
  spell_one : (n i j : ℕ) (s r : PlainSite) (ps : List PlainPiece) → MayBeOne g s r →
      SpellsSpan g w n (over r i j) ps → SpellsSpan g w n (over s i j) ps
  spell_two : (n a b i k j : ℕ) (s r q : PlainSite) (ps qs rs : List PlainPiece) → n ≡ a + b →
      rs ≡ ps ++ qs → i ≤ k → k ≤ j → MayBeTwo g s r q →
      SpellsSpan g w a (over r i k) ps → SpellsSpan g w b (over q k j) qs →
      SpellsSpan g w n (over s i j) rs
