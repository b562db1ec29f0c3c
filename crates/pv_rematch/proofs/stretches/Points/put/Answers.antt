use Rattle.std.proofs.Common.{refl}
use Rattle.pv_rematch.proofs.TurnedPoints.{put_points}
use Rattle.pv_rematch.proofs.stretches.Points.put.Goals as goal

pub returns-then-last-len : goal.returns-then-last-len
returns-then-last-len c =
    λ p w h. put_points p w c.args.self.now.items.items c.args.stretch _ h refl c.replace.ensures
