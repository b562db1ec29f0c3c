-- How far fronts may still go.
use Rattle.std.proofs.Common.{List, [], arith, get_or, length, set, suc, zero, ℕ, ◌<◌, ◌≡◌, ◌^◌}
use Rattle.std.proofs.Common.{◌∷◌, ◌≤◌}
use Rattle.pv_long.specs.Ends.{room_past}

-- less far, where one of them goes further
pub less_room : (ends : List ℕ) (column end old : ℕ) → column < length ends →
    old ≡ get_or ends column old → old < end → end ≤ 2 ^ 32 →
    room_past (set ends column end) < room_past ends
less_room [] column end old l e f top = absurd (omega arith)
less_room (x ∷ ends) zero end old l e f top = omega (arith, e)
less_room (x ∷ ends) (suc column) end old l e f top =
    let r = less_room ends column end old (omega arith) e f top in omega arith
