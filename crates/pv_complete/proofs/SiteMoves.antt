-- Moves, by what stands at a site.
use Rattle.std.specs.Prelude.{IsTrue}
use Rattle.std.proofs.Common.{List, Some, arith, get_or, inl, inr, length, refl, slice_get, suc, ℕ, ◌+◌, ◌-◌, ◌<◌, ◌∙◌, ◌≡◌, ◌≢◌, ◌≤◌}
use Rattle.std.proofs.lemmas.Option.{slice_get-get_or}
use Rattle.pv_model.specs.Plain.{PlainPart, PlainParts, PlainToken, any, children, choice, empty, mixed, name, named, no_parts, opt, part, plus, seq, star, text}
use Rattle.pv_model.specs.declared.models.NameId.{NameId}
use Rattle.pv_dtd.specs.Facts.{are_known, is_formed_part}
use Rattle.pv_dtd.specs.Plain.{PlainDtd, declared, model_of, parts_in}
use Rattle.pv_rules.specs.Derivations.{heaviest}
use Rattle.pv_rules.specs.Numbering.{IsMemberAt, first_part, part_at, rest_at}
use Rattle.pv_rules.specs.Rules.{Goal, IsSpan, over}
use Rattle.pv_rules.specs.Sites.{HasSite, content_site, name_site, part_site, rest_site}
use Rattle.pv_rules.specs.declared.sites.Site.TheVariants as site
use Rattle.pv_rules.proofs.Facts.{parts_by_number}
use Rattle.pv_rules.proofs.Members.{member_within}
use Rattle.pv_rules.proofs.SitesKept.{name_below}
use Rattle.pv_complete.specs.Moves.{AreWeightsBy, IsItem, IsMove}
use Rattle.pv_complete.specs.Spelling.{HoldsData, any_two, children_one, choice_one, data_nothing, empty_nothing, last_one, mixed_two, name_one}
use Rattle.pv_complete.specs.Spelling.{opt_nothing, opt_one, plus_one, plus_two, rest_two, seq_one, star_nothing, star_two}
use Rattle.pv_complete.specs.declared.words.pieces.Move.{Move}
use Rattle.pv_complete.specs.declared.words.pieces.Move.TheVariants as move
use Rattle.pv_complete.proofs.OptimalWeights.{content_children, content_empty, content_nothing, name_kept, name_new, part_choice_none}
use Rattle.pv_complete.proofs.OptimalWeights.{part_name_weight, part_opt_nothing, part_opt_weight, part_seq_weight, part_star_nothing}
use Rattle.pv_complete.proofs.OptimalWeights.{rest_last_weight}
use Rattle.pv_complete.proofs.Ranks.{member_lower, name_below_content, name_below_part, next_lower, part_below_content, part_lower, part_site_of, rest_lower, rest_site_of}

module _ (g : PlainDtd) (w : List PlainToken) (t : Goal → ℕ) (are : ∥ AreWeightsBy g w t ∥₁)
    (known : IsTrue (are_known g)) (some_names : declared g ≤ length g.names) (i j : ℕ)
    (span : IsSpan w i j) where
  pub moves_kept : (x : ℕ) → HasSite g (name_site x) → slice_get w i ≡ Some (named x) → j ≡ suc i → IsMove g w t (name_site x) i j move.Kept
  moves_kept x has f e = (x, refl, e, f, name_kept g w t are known some_names i j span x has f e)

  pub moves_new : (id : NameId) → HasSite g (name_site id.0) → t (over (name_site id.0) i j)
      < heaviest → (slice_get w i ≡ Some (named id.0) → j ≡ suc i → ⊥) →
      IsMove g w t (name_site id.0) i j (move.New id)
  moves_new id has few not = (refl, has, name_new g w t are known some_names i j span id.0 has few not)

  module _ (x : ℕ) (has : HasSite g (content_site x)) (few : t (over (content_site x) i j) < heaviest) where
    pub moves_empty : model_of g x ≡ Some empty → IsMove g w t (content_site x) i j move.Nothing
    moves_empty e = let s = content_empty g w t are known some_names i j span x has few e in
        (s, empty_nothing x e, content_nothing g w t are known some_names i j span x has few (inl e) s)

    pub moves_mixed_none : (ys : List ℕ) → model_of g x ≡ Some (mixed ys) → i ≡ j → IsMove g w t (content_site x) i j move.Nothing
    moves_mixed_none ys e s = (s, data_nothing x (inl (ys, e)), content_nothing g w t are known some_names i j span x has few (inr (inr (ys, e))) s)

    pub moves_any_none : model_of g x ≡ Some any → i ≡ j → IsMove g w t (content_site x) i j move.Nothing
    moves_any_none e s = (s, data_nothing x (inr e), content_nothing g w t are known some_names i j span x has few (inr (inl e)) s)

    pub moves_text : HoldsData g x → i < j → slice_get w i ≡ Some text → t (over (content_site x) i j) ≡ t (over (content_site x) (suc i) j) → IsMove g w t (content_site x) i j move.Text
    moves_text h lt f e = (x, refl, h, lt, f, e)

    pub moves_children : (p : PlainPart) (q : ℕ) → model_of g x ≡ Some (children p) → q ≡ first_part g x → IsMove g w t (content_site x) i j (move.One (site.Part q))
    moves_children p q e f = rw f (
      children_one x p e,
      part_site_of g (first_part g x) p ((parts_by_number g).outermost x p e),
      part_below_content g (first_part g x) x,
      content_children g w t are known some_names i j span x has few p e,
    )

    -- an item that weighs so much is a move
    pub moves_listed : (ys : List ℕ) (n : ℕ) (m : Move) → model_of g x ≡ Some (mixed ys) →
        n ≡ t (over (content_site x) i j) → IsItem t part_site (first_part g x)
        (first_part g x + length ys) x i j n m → IsMove g w t (content_site x) i j m
    moves_listed ys n move.Kept e f h = absurd h
    moves_listed ys n (move.New id) e f h = absurd h
    moves_listed ys n move.Text e f h = absurd h
    moves_listed ys n move.Nothing e f h = absurd h
    moves_listed ys n (move.One r) e f h = absurd h
    moves_listed ys n (move.Two r k q) e f (o, le, lt, a, b, l, u, z) =
        let d = o - first_part g x in
        let same : o ≡ first_part g x + d = omega arith in
        rw (a, b, same) (
          mixed_two x d ys e (omega arith),
          listed_site d (omega arith),
          has,
          omega arith,
          u,
          part_below_content g (first_part g x + d) x,
          inl l,
          rw (f, same) at z,
        )
      where
        listed_site : (d : ℕ) → d < length ys → HasSite g (part_site (first_part g x + d))
        listed_site d l = let f = slice_get-get_or ys d 0 l in part_site_of g (first_part g x + d) (name (get_or ys d 0)) ((parts_by_number g).listed x d (get_or ys d 0) ys e f)

    pub moves_declared : (n : ℕ) (m : Move) → model_of g x ≡ Some any → n ≡ t (over (content_site x) i j) → IsItem t name_site 0 (declared g) x i j n m → IsMove g w t (content_site x) i j m
    moves_declared n move.Kept e f h = absurd h
    moves_declared n (move.New id) e f h = absurd h
    moves_declared n move.Text e f h = absurd h
    moves_declared n move.Nothing e f h = absurd h
    moves_declared n (move.One r) e f h = absurd h
    moves_declared n (move.Two r k q) e f (o, le, lt, a, b, l, u, z) =
        rw (a, b) (any_two x o e lt, omega arith, has, omega arith, u, name_below_content g o x, inl l, rw f at z)

  module _ (q : ℕ) (has : HasSite g (part_site q)) (few : t (over (part_site q) i j) < heaviest) where
    pub moves_name : (id : NameId) → part_at g q ≡ Some (name id.0) → IsMove g w t (part_site q) i j (move.One (site.Name id))
    moves_name id e = (name_one q id.0 e, name_below g q id.0 known e, name_below_part g id.0 q, part_name_weight g w t are known some_names i j span q has few id.0 e)

    pub moves_seq : (p : PlainPart) (ps : PlainParts) (r : ℕ) → part_at g q ≡ Some (seq (part p ps)) → r ≡ suc q → IsMove g w t (part_site q) i j (move.One (site.Rest r))
    moves_seq p ps r e f = rw f (
      seq_one q p ps e,
      rest_site_of g (suc q) (part p ps) ((parts_by_number g).in_seq q p ps e),
      rest_lower g q (seq (part p ps)) e,
      part_seq_weight g w t are known some_names i j span q has few p ps e,
    )

    pub moves_formed : (ps : PlainParts) (r : ℕ) → IsTrue (is_formed_part (seq ps)) → part_at g q ≡ Some (seq ps) → r ≡ suc q → IsMove g w t (part_site q) i j (move.One (site.Rest r))
    moves_formed no_parts r f e n = absurd cc
    moves_formed (part p ps) r f e n = moves_seq p ps r e n

    pub moves_member : (p : PlainPart) (ps : PlainParts) (r n : ℕ) → part_at g q ≡ Some (choice ps) → IsMemberAt p r (suc q) ps → n ≡ t (over (part_site q) i j) → t (over (part_site r) i j) ≡ n →
        IsMove g w t (part_site q) i j (move.One (site.Part r))
    moves_member p ps r n e m f h = (
      choice_one q r p ps e m,
      part_site_of g r p ((parts_by_number g).in_choice q r p ps e m),
      part_lower g q r (choice ps) e (let l = member_within p r (suc q) ps m in let a = l.0 in omega arith),
      omega arith,
    )

    -- some member of a choice weighs as much
    pub moves_no_member : (ps : PlainParts) (n : ℕ) → part_at g q ≡ Some (choice ps) →
        n ≡ t (over (part_site q) i j) → ((p : PlainPart) (r : ℕ) → IsMemberAt p r (suc q) ps →
        n ≢ t (over (part_site r) i j)) → ⊥
    moves_no_member ps n e f none = part_choice_none g w t are known some_names i j span q has few ps e (λ p r m z. none p r m (f ∙ z))

    pub moves_opt_none : (p : PlainPart) → part_at g q ≡ Some (opt p) → i ≡ j → IsMove g w t (part_site q) i j move.Nothing
    moves_opt_none p e s = (s, opt_nothing q p e, part_opt_nothing g w t are known some_names i j span q has few p e s)

    pub moves_opt : (p : PlainPart) (r : ℕ) → part_at g q ≡ Some (opt p) → r ≡ suc q → i < j → IsMove g w t (part_site q) i j (move.One (site.Part r))
    moves_opt p r e f lt = rw f (
      opt_one q p e,
      part_site_of g (suc q) p ((parts_by_number g).in_opt q p e),
      part_lower g q (suc q) (opt p) e (omega arith),
      part_opt_weight g w t are known some_names i j span q has few p e lt,
    )

    pub moves_star_none : (p : PlainPart) → part_at g q ≡ Some (star p) → i ≡ j → IsMove g w t (part_site q) i j move.Nothing
    moves_star_none p e s = (s, star_nothing q p e, part_star_nothing g w t are known some_names i j span q has few p e s)

    pub moves_star : (p : PlainPart) (r k : ℕ) → part_at g q ≡ Some (star p) → r ≡ suc q → i < k → k ≤ j → t (over (part_site q) i j) ≡ t (over (part_site r) i k) + t (over (part_site q) k j) →
        IsMove g w t (part_site q) i j (move.Two (site.Part r) k (site.Part q))
    moves_star p r k e f lt le z = rw f (
      star_two q p e,
      part_site_of g (suc q) p ((parts_by_number g).in_star q p e),
      has,
      omega arith,
      le,
      part_lower g q (suc q) (star p) e (omega arith),
      inl lt,
      rw f at z,
    )

    pub moves_plus_one : (p : PlainPart) (r : ℕ) → part_at g q ≡ Some (plus p) → r ≡ suc q →
        t (over (part_site q) i j) ≡ t (over (part_site r) i j) →
        IsMove g w t (part_site q) i j (move.One (site.Part r))
    moves_plus_one p r e f z = rw f (
      plus_one q p e,
      part_site_of g (suc q) p ((parts_by_number g).in_plus q p e),
      part_lower g q (suc q) (plus p) e (omega arith),
      rw f at z,
    )

    pub moves_plus : (p : PlainPart) (r k : ℕ) → part_at g q ≡ Some (plus p) → r ≡ suc q → i < k → k ≤ j → t (over (part_site q) i j) ≡ t (over (part_site r) i k) + t (over (part_site q) k j) →
        IsMove g w t (part_site q) i j (move.Two (site.Part r) k (site.Part q))
    moves_plus p r k e f lt le z = rw f (
      plus_two q p e,
      part_site_of g (suc q) p ((parts_by_number g).in_plus q p e),
      has,
      omega arith,
      le,
      part_lower g q (suc q) (plus p) e (omega arith),
      inl lt,
      rw f at z,
    )

  module _ (q : ℕ) (has : HasSite g (rest_site q)) (few : t (over (rest_site q) i j) < heaviest) where
    pub moves_last : (p : PlainPart) → rest_at g q ≡ Some (part p no_parts) → IsMove g w t (rest_site q) i j (move.One (site.Part q))
    moves_last p e = (
      last_one q p e,
      part_site_of g q p ((parts_by_number g).member q p no_parts e),
      member_lower g q,
      rest_last_weight g w t are known some_names i j span q has few p e,
    )

    pub moves_then : (p r : PlainPart) (ps : PlainParts) (n k : ℕ) → rest_at g q ≡ Some (part p (part r ps)) → n ≡ q + parts_in p → i ≤ k → k ≤ j →
        t (over (rest_site q) i j) ≡ t (over (part_site q) i k) + t (over (rest_site n) k j) → IsMove g w t (rest_site q) i j (move.Two (site.Part q) k (site.Rest n))
    moves_then p r ps n k e f le lt z = rw f (
      rest_two q p r ps e,
      part_site_of g q p ((parts_by_number g).member q p (part r ps) e),
      rest_site_of g (q + parts_in p) (part r ps) ((parts_by_number g).next q p r ps e),
      le,
      lt,
      member_lower g q,
      inr (next_lower g q p (part r ps) e),
      rw f at z,
    )
