use Rattle.std.proofs.Common.{◌∙◌, arith}
use Rattle.std.specs.List.{between}
use Rattle.std.proofs.lemmas.List.{take_rest}
use Rattle.pv_dtd.specs.PlainForms.{plain_dtd}
use Rattle.pv_edit.specs.Changes.{in_place_of}
use Rattle.pv_edit.specs.FittingChanges.{plain_filling}
use Rattle.pv_edit.proofs.FilledKids.{slice_plain}
use Rattle.pv_tree.specs.PlainForms.{plain_all}
use Rattle.pv_cache.proofs.JoinedWords.{bare-after}
use Rattle.pv_cache.proofs.SplicedTokens.{are-spliced, tokens-counted, tokens-long}
use Rattle.pv_cache.proofs.words.tokens_after.Goals as goal

pub what_comes-requires : goal.what_comes-requires
what_comes-requires c =
    rw (slice_plain c.args.change.now.from c.args.change.now.to c.args.kids.now)
    c.requires.suits.fits

pub spliced_tokens-requires-clause-within : goal.spliced_tokens-requires-clause-within
spliced_tokens-requires-clause-within c =
    let long =
    tokens-long (plain_dtd c.args.dtd.now) (plain_all c.args.kids.now) c.args.before.now
    c.requires.before in
    omega (arith, c.requires.suits.within)

pub spliced_tokens-requires-clause-counted : goal.spliced_tokens-requires-clause-counted
spliced_tokens-requires-clause-counted c =
    tokens-counted (plain_dtd c.args.dtd.now) (plain_all c.args.kids.now) c.args.before.now
    c.requires.before

pub returns : goal.returns
returns c =
    let ks = c.args.kids.now in
    let from = c.args.change.now.from in
    let to = c.args.change.now.to in
    let old = slice_plain from to ks in
    let new =
    in_place_of (plain_filling c.args.change.now.filling) (between from to (plain_all ks)) in
    let m = c.in_ok-middle.ensures new (rw (← old) c.what_comes.ensures) in
    are-spliced (plain_dtd c.args.dtd.now) (plain_all ks) c.args.before.now c.requires.before new
    c.in_ok-middle.middle m from to c.are_bare-bare.result c.in_ok-after.after
    c.in_ok-after.ensures
    (c.are_bare-bare.ensures
    ∙ rw (c.is_bare.ensures, c.is_bare-2.ensures, m.word.bare, take_rest ks to)
    (bare-after ks from to new))
