-- What a site over a span, which weighs at most 1,000,000, tells of the site that it is.
use Rattle.std.proofs.Common.{ap, arith, map, ◌<◌, ◌∙◌, ◌≡◌}
use Rattle.pv_model.specs.PlainForms.{plain_token}
use Rattle.pv_rules.specs.Derivations.{heaviest}
use Rattle.pv_rules.specs.PlainForms.{plain_site}
use Rattle.pv_rules.specs.Rules.{IsSpan, over}
use Rattle.pv_rules.specs.Sites.{HasSite, PlainSite}
use Rattle.pv_productive.specs.PlainForms.{dtd_of}
use Rattle.pv_span.proofs.KnownSites.{known_site}
use Rattle.pv_span.specs.Weights.{weight_of}
use Rattle.pv_complete.specs.declared.words.spot.Spot.{Spot}
use Rattle.pv_complete.proofs.WeightsOfWords.{long_word}

module _ (v : Spot) where
  pub spot_has : HasSite (dtd_of v.weights.grammar.now) (plain_site v.site)
  spot_has = known_site (dtd_of v.weights.grammar.now) (plain_site v.site) v.has

  pub spot_span : IsSpan (map plain_token v.weights.word.now) v.from v.to
  spot_span = let l = long_word v.weights (plain_site v.site) spot_has in (v.span.0, let m = v.span.1 in omega arith)

  module _ (s : PlainSite) where
    pub spot_site : plain_site v.site ≡ s → HasSite (dtd_of v.weights.grammar.now) s
    spot_site e = rw e at spot_has

    pub spot_few : plain_site v.site ≡ s → weight_of v.weights.spans.now (over s v.from v.to) < heaviest
    spot_few e = let w = v.weighs in let l = v.light in rw (w, e) at l

    pub spot_weighs : plain_site v.site ≡ s → v.weight ≡ weight_of v.weights.spans.now (over s v.from v.to)
    spot_weighs e = v.weighs ∙ ap (λ z. weight_of v.weights.spans.now (over z v.from v.to)) e
