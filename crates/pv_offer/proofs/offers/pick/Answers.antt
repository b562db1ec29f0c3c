use Rattle.std.proofs.Common.{List, ap, arith, get_or, length, subst, sym, take, ℕ, ◌+◌, ◌<◌, ◌∙◌, ◌≡◌}
use Rattle.std.proofs.lemmas.List.{take_more}
use Rattle.std.proofs.lemmas.Slice.Zip.{AllZip-long}
use Rattle.pv_offer.specs.Offers.{IsOffered, Picks, TellsOf, added, ends}
use Rattle.pv_offer.proofs.ChosenNames.{more_picked, zip_get}
use Rattle.pv_offer.proofs.offers.pick.Goals as goal

pub loop-place-init : goal.loop-place-init
loop-place-init c = rw c.new-offered.ensures.items ends

pub bounds-tried-place : goal.bounds-tried-place
bounds-tried-place c =
    let long = AllZip-long (TellsOf c.args._marked.now c.args._ask.now) c.args.names.now c.args.tried.now c.requires in
    omega arith

pub loop-place-preserved : goal.loop-place-preserved
loop-place-preserved c =
    let (told, is, new) = c.in_ok-add_told.ensures in
    let s = c.args._marked.now in
    let ask = c.args._ask.now in
    let i = c.loop-place.place in
    let names = c.args.names.now in
    let items = c.loop-place.offered.items in
    let d = c.index-names-place.result in
    let within : i < length names = omega arith in
    let name : c.as_slice.result.now ≡ get_or names i d = c.as_slice.ensures ∙ c.index-names-place.is in
    let tells = subst (TellsOf s ask (get_or names i d)) is (zip_get (TellsOf s ask) names c.args.tried.now i d _ c.requires within) in
    let more = more_picked s ask (take i names) items (get_or names i d) told c.loop-place.invariant tells in
    let far = subst (λ (l : List (List ℕ)). Picks (IsOffered s ask) l (added told (get_or names i d) items)) (sym (take_more names i d within)) more in
    subst (λ (l : List (List ℕ)). Picks (IsOffered s ask) (take (i + 1) names) l) (sym (new ∙ ap (λ n. added told n items) name)) far
