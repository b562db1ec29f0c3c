use Rattle.std.proofs.Common.{length, map, subst, sym, ◌≡◌}
use Rattle.std.proofs.lemmas.List.{length-map}
use Rattle.std.proofs.lemmas.Result.{IfErr-weaker, IfOk-weaker}
use Rattle.pv_model.specs.PlainForms.{plain_token}
use Rattle.pv_productive.specs.PlainForms.{dtd_of}
use Rattle.pv_tree.specs.PlainForms.{forest}
use Rattle.pv_tree.specs.Words.{word_of}
use Rattle.pv_missing.specs.LiveWords.{AreProductiveTokens, IsLiveWord}
use Rattle.pv_missing.proofs.LiveFacts.{live_follows}
use Rattle.pv_complete.proofs.MadeTables.{stops_kids}
use Rattle.pv_complete.proofs.listings.tabling.kids_entries.Goals as goal

pub known_entries-requires-clause-productive : goal.known_entries-requires-clause-productive
known_entries-requires-clause-productive c =
    let d = dtd_of c.args.owner.now.layout.now.grammar.now in
    subst (λ v. AreProductiveTokens d (map plain_token v)) (sym c.as_slice.ensures)
    (live_follows d (word_of d (forest c.args.kids.now)) (map plain_token c.in_ok-live.live) c.in_ok-live.ensures).names

is_live : (c : goal.After-drop-live-inside) →
    IsLiveWord (dtd_of c.args.owner.now.layout.now.grammar.now)
    (word_of (dtd_of c.args.owner.now.layout.now.grammar.now) (forest c.args.kids.now))
    (map plain_token c.as_slice.result.now)
is_live c = rw c.as_slice.ensures c.in_ok-live.ensures

same_length : (c : goal.After-drop-live-inside) → length (map plain_token c.as_slice.result.now) ≡ length (word_of (dtd_of c.args.owner.now.layout.now.grammar.now) (forest c.args.kids.now))
same_length c =
    let d = dtd_of c.args.owner.now.layout.now.grammar.now in
    (live_follows d (word_of d (forest c.args.kids.now)) (map plain_token c.as_slice.result.now) (is_live c)).same_length

pub returns-clause-entries : goal.returns-clause-entries
returns-clause-entries c = IfOk-weaker c.known_entries.result _ _ (λ es all. (map plain_token c.as_slice.result.now, is_live c, all)) c.known_entries.ensures.entries

pub returns-clause-fits : goal.returns-clause-fits
returns-clause-fits c = let n : length c.as_slice.result.now
    ≡ length (word_of (dtd_of c.args.owner.now.layout.now.grammar.now) (forest c.args.kids.now)) =
    simp length-map at (same_length c) in rw n at c.known_entries.ensures.fits

pub returns-clause-refused : goal.returns-clause-refused
returns-clause-refused c =
    IfErr-weaker c.known_entries.result _ _
    (λ e s. stops_kids (dtd_of c.args.owner.now.layout.now.grammar.now) (forest c.args.kids.now)
    (map plain_token c.as_slice.result.now) c.args.places.now c.args.room e (is_live c)
    (same_length c) s) c.known_entries.ensures.refused
