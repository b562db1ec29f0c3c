-- The verdict of a list by its owner's site and its word.
use Rattle.std.proofs.Common.{Bool, IsTrue, List, Option, Some, [], ap, false, length, map, refl, rules, subst, suc, sym, ℕ, ◌∙◌, ◌∷◌, ◌==◌, ◌≡◌}
use Rattle.std.specs.List.{AllByRecursion}
use Rattle.pv_model.specs.Models.{Allows, IsOfAny, IsOfMixed}
use Rattle.pv_model.specs.Plain.{PlainModel, PlainToken, any, children, empty, mixed, named, other, text}
use Rattle.pv_dtd.specs.Plain.{PlainDtd, declared, model_of}
use Rattle.pv_dtd.specs.Productive.{IsProductive}
use Rattle.pv_rules.specs.Sites.{PlainSite, content_site, name_site, part_site, rest_site}
use Rattle.pv_tree.specs.Lists.{Listed}
use Rattle.pv_tree.specs.PlainForms.{forest}
use Rattle.pv_tree.specs.Words.{word_of}
use Rattle.pv_tree.specs.declared.nodes.Node.{Node}
use Rattle.pv_missing.specs.FilledWords.{IsPossible, Pieces, StandsFor}
use Rattle.pv_missing.specs.LiveWords.{AreProductiveTokens, IsLiveWord, live_name, live_none, live_other, live_text}
use Rattle.pv_missing.specs.Verdicts.{IsVerdict}
use Rattle.pv_missing.specs.ListWeights.{site_of}
use Rattle.pv_missing.specs.WordVerdicts.{HoldsOne, IsLiveAt, IsPossibleAt, IsValidAt, IsVerdictByWord, MayHaveKids, has_no_trees}
use Rattle.pv_missing.proofs.LiveFacts.{live_follows}
use Rattle.pv_missing.proofs.OneLiveWord.{one_live_word}
use Rattle.pv_missing.proofs.VerdictWords.{verdict_by_word}
use Rattle.pv_tree.specs.declared.nodes.Verdict.{Verdict}
use Rattle.pv_tree.specs.declared.nodes.Verdict.TheVariants as verdict

-- a word of productive names is its own live word
live_self : (g : PlainDtd) (w : List PlainToken) → AreProductiveTokens g w → IsLiveWord g w w
live_self g [] p = live_none
live_self g (named y ∷ w) p = live_name y w w p.0 (live_self g w p.1)
live_self g (text ∷ w) p = live_text w w (live_self g w p.1)
live_self g (other ∷ w) p = live_other w w (live_self g w p.1)

module _ (g : PlainDtd) (w : List PlainToken) where
  -- a possible live word is the word, and has productive names
  live_productive : (s : PlainSite) (live : List PlainToken) → IsLiveWord g w live → IsPossibleAt g s live → AreProductiveTokens g w
  live_productive (name_site x) live l p = let f = live_follows g w live l in let P : List PlainToken → Type 0 = AreProductiveTokens g in subst P (f.itself_at_root x p) f.names
  live_productive (content_site x) live l p = let f = live_follows g w live l in let P : List PlainToken → Type 0 = AreProductiveTokens g in subst P (f.itself x p) f.names
  live_productive (part_site q) live l p = absurd p
  live_productive (rest_site q) live l p = absurd p

  pub unproductive_judged : (s : PlainSite) (none : Bool) → (AreProductiveTokens g w → ⊥) → IsVerdictByWord g (Some s) w none verdict.Impossible
  unproductive_judged s none not = λ l. not (live_productive s l.live l.is_live l.possible)

  module _ (s : PlainSite) (none : Bool) (productive : AreProductiveTokens g w) where
    live_possible : IsLiveAt g s w none → IsPossibleAt g s w
    live_possible l =
        let e = one_live_word g w l.live w l.is_live (live_self g w productive) in let P : List PlainToken → Type 0 = IsPossibleAt g s in subst P e l.possible

    live_at : MayHaveKids g s none → IsPossibleAt g s w → IsLiveAt g s w none
    live_at may p = record { may_have = may; live = w; is_live = live_self g w productive; possible = p }

    pub judged_valid : MayHaveKids g s none → IsPossibleAt g s w → IsValidAt g s w none → IsVerdictByWord g (Some s) w none verdict.Valid
    judged_valid may p v = (live_at may p, v)

    pub judged_possible : MayHaveKids g s none → IsPossibleAt g s w → (IsValidAt g s w none → ⊥) → IsVerdictByWord g (Some s) w none verdict.Possible
    judged_possible may p n = (live_at may p, n)

    pub judged_impossible : (IsPossibleAt g s w → ⊥) → IsVerdictByWord g (Some s) w none verdict.Impossible
    judged_impossible n = λ l. n (live_possible l)

-- no element of the word has a name that the DTD doesn't have
abbrev IsNamed : PlainToken → Type 0
IsNamed (named y) = Unit {0}
IsNamed text = Unit {0}
IsNamed other = ⊥

any_named : (d : ℕ) (w : List PlainToken) → AllByRecursion (IsOfAny d) w → AllByRecursion IsNamed w
any_named d [] a = tt
any_named d (named y ∷ w) a = (tt, any_named d w a.1)
any_named d (text ∷ w) a = (tt, any_named d w a.1)
any_named d (other ∷ w) a = absurd a.0

mixed_named : (ys : List ℕ) (w : List PlainToken) → AllByRecursion (IsOfMixed ys) w → AllByRecursion IsNamed w
mixed_named ys [] a = tt
mixed_named ys (named y ∷ w) a = (tt, mixed_named ys w a.1)
mixed_named ys (text ∷ w) a = (tt, mixed_named ys w a.1)
mixed_named ys (other ∷ w) a = absurd a.0

children_named : (ys : List ℕ) → AllByRecursion IsNamed (map named ys)
children_named [] = tt
children_named (y ∷ ys) = (tt, children_named ys)

allowed_named : (d : ℕ) (m : PlainModel) (w : List PlainToken) → Allows d m w → AllByRecursion IsNamed w
allowed_named d empty w e = let P : List PlainToken → Type 0 = λ v. AllByRecursion IsNamed v in subst P (sym e) tt
allowed_named d any w a = any_named d w a
allowed_named d (mixed ys) w a = mixed_named ys w a
allowed_named d (children p) w (ys, e, m) = let P : List PlainToken → Type 0 = λ v. AllByRecursion IsNamed v in subst P (sym e) (children_named ys)

-- such a word is cut into its own tokens
own_pieces : (g : PlainDtd) (w : List PlainToken) → AreProductiveTokens g w → AllByRecursion IsNamed w → Pieces (StandsFor g 0) w w
own_pieces g [] p a = refl
own_pieces g (named y ∷ w) p a = (named y ∷ [], w, refl, (p.0, refl), own_pieces g w p.1 a.1)
own_pieces g (text ∷ w) p a = (w, refl, own_pieces g w p.1 a.1)
own_pieces g (other ∷ w) p a = absurd a.0

-- what the model allows is possible, where its names are productive
pub allowed_possible : (g : PlainDtd) (x : ℕ) (m : PlainModel) (w : List PlainToken) → model_of g x ≡ Some m → Allows (declared g) m w → AreProductiveTokens g w → IsPossible g x w
allowed_possible g x m w e a p = (0, (m, e, w, a, own_pieces g w p (allowed_named (declared g) m w a)))

-- an element of the root's name is what the document node is to hold
pub root_valid_judged : (g : PlainDtd) (w : List PlainToken) (x : ℕ) (none : Bool) → AreProductiveTokens g w → w ≡ named x ∷ [] → IsVerdictByWord g (Some (name_site x)) w none verdict.Valid
root_valid_judged g w x none productive e =
    let P : List PlainToken → Type 0 = AreProductiveTokens g in let p = subst P e productive in
    judged_valid g w (name_site x) none productive tt (0, (p.0, e)) e

-- the verdict of an element's list by its model
module _ (g : PlainDtd) (w : List PlainToken) (x : ℕ) (m : PlainModel) (none : Bool)
    (at : model_of g x ≡ Some m) (productive : AreProductiveTokens g w) (owner : IsProductive g x)
    (kids : m ≡ empty → IsTrue none) where
  may_have_kids : MayHaveKids g (content_site x) none
  may_have_kids = (owner, λ e. kids (cc))

  pub content_valid_judged : Allows (declared g) m w → IsVerdictByWord g (Some (content_site x)) w none verdict.Valid
  content_valid_judged a = judged_valid g w (content_site x) none productive may_have_kids (allowed_possible g x m w at a productive) (m, at, kids, a)

  pub content_possible_judged : (Allows (declared g) m w → ⊥) → IsPossible g x w → IsVerdictByWord g (Some (content_site x)) w none verdict.Possible
  content_possible_judged not p = judged_possible g w (content_site x) none productive may_have_kids p (λ v. not (let z : v.0 ≡ m = let a = v.1 in cc in rw z at v.3))

-- where an EMPTY element has kids, its list is impossible
pub kids_judged : (g : PlainDtd) (w : List PlainToken) (x : ℕ) (m : PlainModel) (none : Bool) →
    model_of g x ≡ Some m → ((m ≡ empty → IsTrue none) → ⊥) →
    IsVerdictByWord g (Some (content_site x)) w none verdict.Impossible
kids_judged g w x m none at not = λ l. not (λ e. l.may_have.1 (at ∙ ap (λ v. Some v) e))

-- the verdict of a list by that of its word
pub list_judged : (M : Type 0) (g : PlainDtd) (root : List ℕ) (list : Listed M)
    (w : List PlainToken) (none : Bool) (o : Option PlainSite) (v : Verdict) →
    w ≡ word_of g list.kids → none ≡ has_no_trees list.kids →
    HoldsOne list.owner list.kids → site_of g root list.owner ≡ o → IsVerdictByWord g o w none v → IsVerdict g root list v
list_judged M g root list w none o v e f one at j =
    let P : List PlainToken → Type 0 = λ u. IsVerdictByWord g o u (has_no_trees list.kids) v in
    let Q : Bool → Type 0 = λ b. IsVerdictByWord g o w b v in
    let R : Option PlainSite → Type 0 = λ p. IsVerdictByWord g p (word_of g list.kids) (has_no_trees list.kids) v in
    (verdict_by_word M g root list v one).1 (subst R (sym at) (subst P e (subst Q f j)))

more_than_none : (n : ℕ) → (suc n == 0) ≡ false
more_than_none n = search rules

pub bare_kids : (kids : List Node) (b : Bool) → b ≡ (length kids == 0) → b ≡ has_no_trees (forest kids)
bare_kids [] b e = e
bare_kids (k ∷ ks) b e = e ∙ more_than_none (length ks)
