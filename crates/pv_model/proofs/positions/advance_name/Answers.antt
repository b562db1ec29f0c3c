use Rattle.std.proofs.Common.{◌≡◌, ◌&&◌, ◌==◌, ◌∙◌, ap, arith, rules, [], ◌∷◌}
use Rattle.std.proofs.lemmas.Grind.{common_steps}
use Rattle.pv_model.specs.Positions.{overwrite}
use Rattle.pv_model.proofs.WrittenPositions.{overwrite_one}
use Rattle.pv_model.proofs.positions.advance_name.Goals as goal

pub returns : goal.returns
returns c =
    let is : c.if-entered.is_end ≡ (c.args.entered && c.args.own.0 == c.args.name.0) = search rules in
    record {
      next = search rules;
      was_end = grind (arith, common_steps);
      is_end = is;
      is_reached = is;
      may_be_empty = search rules;
      positions = overwrite_one c.args.at c.if-entered.is_end c.args.positions.now c.requires ∙ ap (λ b. overwrite c.args.at (b ∷ []) c.args.positions.now) is;
    }
