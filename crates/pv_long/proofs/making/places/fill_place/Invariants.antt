use Rattle.pv_long.proofs.making.places.fill_place.Given as goal

abbrev pub decreases-times : goal.decreases-times
decreases-times l = l.left
