-- Whether a word is possible, by the value of its owner's site over the whole word.
use Rattle.std.specs.Prelude.{nat_lt}
use Rattle.std.proofs.Common.{IsTrue, List, arith, length, map, ℕ, ◌<◌, ◌↔◌, ◌≡◌}
use Rattle.std.proofs.lemmas.Bool.{lt-ltb, ltb-true}
use Rattle.std.proofs.lemmas.List.{length-map}
use Rattle.pv_model.specs.Plain.{PlainToken}
use Rattle.pv_model.specs.PlainForms.{plain_token}
use Rattle.pv_model.specs.declared.models.Token.{Token}
use Rattle.pv_dtd.specs.Plain.{PlainDtd}
use Rattle.pv_dtd.specs.Proper.{IsProperDtd}
use Rattle.pv_rules.specs.Rules.{IsSpan, over}
use Rattle.pv_rules.specs.Sites.{HasSite}
use Rattle.pv_productive.specs.Tables.{no_size}
use Rattle.pv_missing.specs.LiveWords.{AreProductiveTokens}
use Rattle.pv_missing.specs.PlainForms.{plain_of}
use Rattle.pv_missing.specs.declared.owners.Of.{Of}
use Rattle.pv_missing.specs.declared.owners.Of.TheVariants as of
use Rattle.pv_missing.specs.WordVerdicts.{IsPossibleAt}
use Rattle.pv_missing.proofs.PossibleSites.{content_possible, root_possible}
use Rattle.pv_span.specs.Weights.{AreValues, site_value}
use Rattle.pv_span.specs.declared.weighing.Spans.{Spans}

whole : (w : List PlainToken) → IsSpan w 0 (length w)
whole w = (omega arith, omega arith)

module _ (g : PlainDtd) (w : List PlainToken) (spans : Spans) (proper : IsProperDtd g) (productive : AreProductiveTokens g w) (v : AreValues g w spans) where
  pub has_value : (owner : Of) → HasSite g (plain_of owner) → (site_value spans (over (plain_of owner) 0 (length w)) < no_size) ↔ IsPossibleAt g (plain_of owner) w
  has_value (of.Root id) has =
      let d = v.values (plain_of (of.Root id)) 0 (length w) has (whole w) in let p = root_possible g w proper productive id.0 in
      ((λ l. p.0 (d.0 l)), (λ h. d.1 (p.1 h)))
  has_value (of.Elem id) has =
      let d = v.values (plain_of (of.Elem id)) 0 (length w) has (whole w) in let p = content_possible g w proper productive id.0 in
      ((λ l. p.0 (d.0 l)), (λ h. d.1 (p.1 h)))

pub possible_by_value : (g : PlainDtd) (word : List Token) (owner : Of) (spans : Spans) (v : ℕ) → IsProperDtd g → AreProductiveTokens g (map plain_token word) →
    AreValues g (map plain_token word) spans → HasSite g (plain_of owner) → v ≡ site_value spans (over (plain_of owner) 0 (length word)) →
    IsTrue (nat_lt v 4000000) ↔ IsPossibleAt g (plain_of owner) (map plain_token word)
possible_by_value g word owner spans v proper productive f has e =
    let h = has_value g (map plain_token word) spans proper productive f owner has in
    let n : length (map plain_token word) ≡ length word = simp length-map in
    let k = rw n at h in
    ((λ b. k.0 (let l = ltb-true v 4000000 b in omega arith)), (λ p. let l = k.1 p in lt-ltb v 4000000 (omega arith)))
