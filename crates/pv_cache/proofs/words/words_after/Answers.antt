use Rattle.pv_edit.proofs.FilledKids.{slice_plain}
use Rattle.pv_cache.proofs.words.words_after.Goals as goal

pub inner_word-requires-clause-fits : goal.inner_word-requires-clause-fits
inner_word-requires-clause-fits c =
    rw (slice_plain c.args.change.now.from c.args.change.now.to c.args.kids.now)
    c.requires.suits.fits

pub returns : goal.returns
returns c = record {
  outer = c.in_ok-outer.ensures;
  inner =
      rw (← slice_plain c.args.change.now.from c.args.change.now.to c.args.kids.now)
      c.in_ok-inner.ensures;
}
