-- The answer for a word of productive names, by whether its owner's column reaches the end.
use Rattle.std.proofs.Common.{Bool, IsTrue, List, [], arith, inl, inr, length, map, ℕ, ◌∷◌, ◌↔◌}
use Rattle.std.proofs.Common.{◌≡◌}
use Rattle.pv_model.specs.Plain.{named}
use Rattle.pv_model.specs.PlainForms.{plain_token}
use Rattle.pv_model.specs.declared.models.Token.{Token}
use Rattle.pv_dtd.specs.Plain.{IsDeclared, PlainDtd, declared}
use Rattle.pv_rules.specs.Sites.{content_site}
use Rattle.pv_reach.proofs.FormedDtds.{IsFormedDtd}
use Rattle.pv_missing.specs.LiveWords.{AreProductiveTokens}
use Rattle.pv_dtd.specs.Proper.{IsProperDtd}
use Rattle.pv_missing.proofs.PossibleSites.{content_at_root, content_possible, root_either}
use Rattle.pv_missing.specs.PlainForms.{plain_of}
use Rattle.pv_missing.specs.declared.owners.Of.{Of}
use Rattle.pv_missing.specs.declared.owners.Of.TheVariants as of
use Rattle.std.proofs.lemmas.List.{length-map}
use Rattle.pv_missing.specs.WordVerdicts.{IsPossibleAt}
use Rattle.pv_columns.specs.declared.rules.ColumnRule.{ColumnRule}
use Rattle.pv_columns.specs.ColumnRules.{ReadThrough}
use Rattle.pv_reach.specs.Columns.{AreRules}
use Rattle.pv_rules.specs.SiteDerivations.{DerivesAt}
use Rattle.pv_reach.proofs.ColumnsDerive.{content_derives}
use Rattle.pv_reach.proofs.SitesReach.{sites_reach}

-- the content of a declared name derives the whole word exactly where its column reaches the end
pub content_reaches : (g : PlainDtd) (rules : List ColumnRule) (word : List Token) (x : ℕ) (b : Bool) → AreRules g rules → IsFormedDtd g → IsDeclared g x →
    (IsTrue b ↔ ReadThrough rules word (x ∷ []) 0 (length word)) → IsTrue b ↔ DerivesAt g (map plain_token word) (content_site x) 0 (length word)
content_reaches g rules word x b are formed l iff = (
  (λ t. content_derives g rules word are formed x 0 (length word) l (omega arith) (iff.0 t)),
  (λ d. iff.1 (sites_reach g rules word are d.0 (content_site x) 0 (length word) d.1).1),
)

module _ (g : PlainDtd) (word : List Token) (x : ℕ) (b : Bool) (proper : IsProperDtd g) (productive : AreProductiveTokens g (map plain_token word))
    (iff : IsTrue b ↔ DerivesAt g (map plain_token word) (content_site x) 0 (length word)) where
  whole_word : IsTrue b ↔ DerivesAt g (map plain_token word) (content_site x) 0 (length (map plain_token word))
  whole_word = rw length-map iff

  pub content_answer : (owner : Of) → owner ≡ of.Elem (record { 0 = x }) → IsTrue b ↔ IsPossibleAt g (plain_of owner) (map plain_token word)
  content_answer owner e = rw e (
    (λ t. (content_possible g (map plain_token word) proper productive x).0 (whole_word.0 t)),
    (λ p. whole_word.1 ((content_possible g (map plain_token word) proper productive x).1 p)),
  )

  pub root_answer : (owner : Of) → owner ≡ of.Root (record { 0 = x }) → (map plain_token word ≡ named x ∷ [] → ⊥) → IsTrue b ↔ IsPossibleAt g (plain_of owner) (map plain_token word)
  root_answer owner e not = rw e (
    (λ t. content_at_root g (map plain_token word) proper productive x ((content_possible g (map plain_token word) proper productive x).0 (whole_word.0 t))),
    (λ p. elim (root_either g (map plain_token word) proper productive x p) [
      | inl f ↦ absurd (not f)
      | inr c ↦ whole_word.1 ((content_possible g (map plain_token word) proper productive x).1 c)
    ]),
  )
