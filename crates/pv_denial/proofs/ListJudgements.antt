-- What is found of the list of a denial is what the denial is judged to be.
use Rattle.std.specs.Prelude.{Bool, IfSome, IsTrue, MatchOption, option_map}
use Rattle.std.proofs.lemmas.List.{length-map}
use Rattle.std.proofs.lemmas.Option.{slice_get_within}
use Rattle.std.proofs.Common.{List, None, Option, Some, [], ap, inl, length, map, refl, subst, suc}
use Rattle.std.proofs.Common.{sym, zero, ℕ, ◌∙◌, ◌≡◌, ◌≢◌, ◌<◌, ◌↔◌, ◌∷◌}
use Rattle.pv_model.specs.Plain.{PlainToken, empty}
use Rattle.pv_model.specs.PlainForms.{plain_token}
use Rattle.pv_model.specs.declared.models.NameId.{NameId}
use Rattle.pv_model.specs.declared.models.Token.{Token}
use Rattle.pv_dtd.specs.Plain.{PlainDtd, model_of, number_of, place_of}
use Rattle.pv_dtd.proofs.NameSequences.{get-place}
use Rattle.pv_rules.specs.Rules.{IsKnownWord}
use Rattle.pv_rules.specs.Sites.{PlainSite, content_site, name_site}
use Rattle.pv_tree.specs.Lists.{Listed, Owner, an_element, the_document}
use Rattle.pv_tree.specs.Plain.{Forest, no_trees}
use Rattle.pv_tree.specs.PlainForms.{forest}
use Rattle.pv_tree.specs.declared.nodes.Node.{Node}
use Rattle.pv_tree.specs.Words.{word_of}
use Rattle.pv_missing.specs.LiveWords.{IsLiveWord, live_name, live_none, live_other, live_text, live_unproductive}
use Rattle.pv_missing.specs.ListWeights.{site_of}
use Rattle.pv_missing.specs.WordLaws.{LiveFollows, OneLiveWord}
use Rattle.pv_missing.specs.Widths.{FitsVerdict, IsListForVerdict}
use Rattle.pv_denial.specs.Causes.{HasKidsInEmpty, HoldsOfList, owner_name}
use Rattle.pv_denial.specs.Judgements.{IsReached, IsRightCause, IsRightTable, JudgesAt, JudgesRows}
use Rattle.pv_denial.specs.Rows.{AreBarrierRows, row_value}
use Rattle.pv_denial.specs.declared.denials.Cause.{Cause}
use Rattle.pv_denial.specs.declared.denials.Cause.TheVariants as cause
use Rattle.pv_denial.specs.declared.denials.Denial.{Denial}
use Rattle.pv_denial.specs.declared.denials.Flaw.TheVariants as flaw
use Rattle.pv_denial.specs.declared.denials.Judged.{Judged}
use Rattle.pv_denial.specs.declared.denials.Judged.TheVariants as judged

-- the names of a live word are names of the DTD where those of the word are
pub live_known : (g : PlainDtd) (w live : List PlainToken) → IsLiveWord g w live → IsKnownWord g w → IsKnownWord g live
live_known g w live live_none k i y e = absurd cc
live_known g w live (live_name z u v p rest) k zero y e = k 0 y e
live_known g w live (live_name z u v p rest) k (suc i) y e = live_known g u v rest (λ j x. k (suc j) x) i y e
live_known g w live (live_unproductive z u v p rest) k zero y e = absurd cc
live_known g w live (live_unproductive z u v p rest) k (suc i) y e = live_known g u v rest (λ j x. k (suc j) x) i y e
live_known g w live (live_text u v rest) k zero y e = absurd cc
live_known g w live (live_text u v rest) k (suc i) y e = live_known g u v rest (λ j x. k (suc j) x) i y e
live_known g w live (live_other u v rest) k zero y e = absurd cc
live_known g w live (live_other u v rest) k (suc i) y e = live_known g u v rest (λ j x. k (suc j) x) i y e

some_number : {A : Type 0} (f : ℕ → A) (o : Option ℕ) (s : A) → option_map f o ≡ Some s → (x : ℕ) × (o ≡ Some x)
some_number f None s e = absurd cc
some_number f (Some x) s e = (x, refl)

number_of_site : (g : PlainDtd) (root : List ℕ) (o : Owner) (s : PlainSite) → site_of g root o ≡ Some s → (x : ℕ) × (number_of g (owner_name root o) ≡ Some x)
number_of_site g root the_document s e = some_number name_site (number_of g root) s e
number_of_site g root (an_element x) s e = some_number content_site (number_of g x) s e

no_number : {A : Type 0} (f : ℕ → A) (o : Option ℕ) (x : ℕ) → option_map f o ≡ None → o ≡ Some x → ⊥
no_number f o x e h = let P : Option ℕ → Type 0 = λ v. option_map f v ≡ None in let y = subst P h e in cc

no_number_of : (g : PlainDtd) (root : List ℕ) (o : Owner) (x : ℕ) → site_of g root o ≡ None → number_of g (owner_name root o) ≡ Some x → ⊥
no_number_of g root the_document x e h = no_number name_site (number_of g root) x e h
no_number_of g root (an_element y) x e h = no_number content_site (number_of g y) x e h

module _ {M : Type 0} (g : PlainDtd) (root : List ℕ) (d : Denial) (list : Listed M) where
  module _ (by_word : d.cause ≡ cause.Word) where
    -- the DTD doesn't have the owner's name
    pub no_owner : site_of g root list.owner ≡ None → IsListForVerdict g list → JudgesAt g root d list (judged.Rejected flaw.Cause)
    no_owner e fits = (
      (λ _. fits),
      (λ (r : IsRightCause g root d list). let P : Cause → Type 0 = λ c. HoldsOfList g root list c in let h = subst P by_word r.holds in no_number_of g root list.owner h.0 e h.1),
    )

    module _ (follows : LiveFollows) (one : OneLiveWord) (s : PlainSite)
        (site : site_of g root list.owner ≡ Some s) (live : List PlainToken) (is : IsLiveWord g
        (word_of g list.kids) live) (fits : IsListForVerdict g list) where
      right : IsRightCause g root d list
      right = record { holds = let P : Cause → Type 0 = λ c. HoldsOfList g root list c in subst P (sym by_word) (number_of_site g root list.owner s site); rows = inl by_word }

      table : AreBarrierRows g live d.rows → IsRightTable g d list
      table are = λ _ w h. let P : List PlainToken → Type 0 = λ v. AreBarrierRows g v d.rows in subst P (one g (word_of g list.kids) live w is h) are

      same_length : length live ≡ length (word_of g list.kids)
      same_length = (follows g (word_of g list.kids) live is).same_length

      reached : IsReached g root d list → row_value d.rows s 0 ≡ Some (length live)
      reached r =
          let z : r.site ≡ s = let a = r.is_site in cc in
          let P : PlainSite → Type 0 = λ v. row_value d.rows v 0 ≡ Some (length (word_of g list.kids)) in
          subst P z r.is_value ∙ ap (λ v. Some v) (sym same_length)

      pub rows_judged : (j : Judged) → JudgesRows g s live d.rows j → JudgesAt g root d list j
      rows_judged judged.Denied (are, not) = ((λ _. fits), right, table are, (λ r. not (reached r)))
      rows_judged (judged.Rejected flaw.List) h = absurd h
      rows_judged (judged.Rejected flaw.Cause) h = absurd h
      rows_judged (judged.Rejected flaw.Table) not = ((λ _. fits), right, (λ t. not (t by_word live is)))
      rows_judged (judged.Rejected flaw.Reached) (are, e) =
          ((λ _. fits), right, table are, record { by_word = by_word; site = s; is_site = site; is_value = e ∙ ap (λ v. Some v) same_length })

-- the live word of a list has its length
pub live_fits : (g d : PlainDtd) (w : List PlainToken) (live : List Token) → LiveFollows → d ≡ g → IsLiveWord g w (map plain_token live) → FitsVerdict d (length live) ↔ FitsVerdict g (length w)
live_fits g d w live follows e is =
    let n : length live ≡ length w = sym (length-map live plain_token) ∙ (follows g w (map plain_token live) is).same_length in
    let P : ℕ → Type 0 = λ v. FitsVerdict g v in let Q : PlainDtd → Type 0 = λ v. FitsVerdict v (length live) in
    ((λ h. subst P n (subst Q e h)), (λ h. subst Q (sym e) (subst P (sym n) h)))

-- an EMPTY element with kids
pub empty_iff : {M : Type 0} (g : PlainDtd) (owner : Owner) (kids : Forest M) (name : List ℕ) (x : ℕ) (b : Bool) → owner ≡ an_element name → number_of g name ≡ Some x → (kids ≡ no_trees → ⊥) →
    (IsTrue b ↔ (model_of g x ≡ Some empty)) → IsTrue b ↔ HasKidsInEmpty g owner kids
empty_iff {M} g owner kids name x b e n not iff =
    let P : Owner → Type 0 = λ o. IsTrue b ↔ HasKidsInEmpty g o kids in
    subst P (sym e) ((λ t. (x, n, iff.0 t, not)), (λ (y, u, m, z). let s = same y u in let Q : ℕ → Type 0 = λ v. model_of g v ≡ Some empty in iff.1 (subst Q s m)))
  where
    same : (y : ℕ) → number_of g name ≡ Some y → y ≡ x
    same y u = cc

pub no_forest : (nodes : List Node) → forest nodes ≡ no_trees → length nodes ≡ 0
no_forest [] e = refl
no_forest (n ∷ ns) e = absurd cc

pub known_id : (names : List (List ℕ)) (name : List ℕ) (o : Option NameId) → option_map (λ (id : NameId). id.0) o ≡ place_of names name → IfSome o (λ (id : NameId). id.0 < length names)
known_id names name None e = tt
known_id names name (Some id) e = slice_get_within names id.0 name (get-place names name id.0 (sym e))

-- what is matched
pub matched_none : {A : Type 0} (o : Option A) (P : Type 0) (Q : A → Type 0) → MatchOption o P Q → o ≡ None → P
matched_none None P Q h e = h
matched_none (Some a) P Q h e = absurd cc

pub matched_some : {A : Type 0} (o : Option A) (a : A) (P : Type 0) (Q : A → Type 0) → MatchOption o P Q → o ≡ Some a → Q a
matched_some None a P Q h e = absurd cc
matched_some (Some b) a P Q h e = let z : b ≡ a = cc in subst Q z h
