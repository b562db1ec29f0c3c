use Rattle.std.proofs.Common.{List, Option, rules, subst, sym, ℕ, ◌≡◌}
use Rattle.std.specs.Prelude.{IsTrue}
use Rattle.std.specs.Option.{ForSome}
use Rattle.pv_cache.specs.Apart.{is_apart}
use Rattle.pv_cache.specs.ChangedWords.{AreKeptTokens}
use Rattle.pv_cache.specs.declared.kept_lists.KeptTokens.{KeptTokens}
use Rattle.pv_cache.proofs.ListTokenFacts.{some-kept}
use Rattle.pv_cache.proofs.kept_lists.KeptLists.change.Goals as goal

pub returns : goal.returns
returns c = λ g before after held stays tokens.
    let list : c.places-changed.result.now ≡ c.args.list = search rules in
    let last : KeptTokens = record { list = c.args.list; tokens = c.args.tokens } in
    let two =
    c.first_two-asked.ensures g after
    (λ kept e.
    stays kept
    (subst (λ (q : List ℕ). IsTrue (is_apart q kept.list)) list
    (c.lasting-last.ensures.apart kept e))
    (c.lasting-last.ensures.held g before
    (subst (λ (o : Option KeptTokens). ForSome o (AreKeptTokens g before))
    (sym c.take.ensures.value) held.0) kept e))
    (λ kept e.
    stays kept
    (subst (λ (q : List ℕ). IsTrue (is_apart q kept.list)) list
    (c.lasting-asked.ensures.apart kept e))
    (c.lasting-asked.ensures.held g before
    (subst (λ (o : Option KeptTokens). ForSome o (AreKeptTokens g before))
    (sym c.take-2.ensures.value) held.1) kept e))
    (λ kept e.
    stays kept
    (subst (λ (q : List ℕ). IsTrue (is_apart q kept.list)) list
    (c.lasting-older.ensures.apart kept e))
    (c.lasting-older.ensures.held g before
    (subst (λ (o : Option KeptTokens). ForSome o (AreKeptTokens g before))
    (sym c.take-3.ensures.value) held.2) kept e)) in (
      λ kept e.
          let same : last ≡ kept = cc in
          subst (AreKeptTokens g after) same (some-kept g after last tokens),
      two.0,
      two.1,
    )
