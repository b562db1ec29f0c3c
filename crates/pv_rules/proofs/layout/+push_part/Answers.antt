use Rattle.std.proofs.Common.{ap, arith, drop, refl, ◌∙◌, ◌≡◌, ◌+◌}
use Rattle.pv_model.specs.PlainForms.{plain_part, plain_parts}
use Rattle.pv_rules.specs.Flat.{are_some, membership_of}
use Rattle.pv_rules.proofs.FlatParts.{finished, fits_more, follows, members_more, pushed_length}
use Rattle.pv_rules.proofs.layout.+push_part.Goals as goal

pub push_part-returns : goal.push_part-returns
push_part-returns t c = finished c.args.parts.now.items c.push_within.new.parts.items c.len-number.result c.len.result
    (record { kind = c.kind_of.result; end = 0; membership = c.args.membership }) c.index_mut.result.now c.args.membership (plain_part c.args.part.now)
    (omega arith) (omega arith) (c.kind_of.ensures) refl (rw c.in_ok-push.ensures.items at c.in_ok-push_within.ensures) c.index_mut.ensures.value

pub push_part-overflow_cast-len : goal.push_part-overflow_cast-len
push_part-overflow_cast-len t c =
    let l = pushed_length c.args.parts.now.items c.push_within.new.parts.items (record { kind = c.kind_of.result; end = 0; membership = c.args.membership })
    (plain_part c.args.part.now) (rw c.in_ok-push.ensures.items at c.in_ok-push_within.ensures) in
    omega (arith, l, c.len.ensures, c.requires)

pub push_members-loop-i-preserved : goal.push_members-loop-i-preserved
push_members-loop-i-preserved t c = record {
  all = members_more c.args.parts.now.items c.loop-i.parts.items c.push_part.new.parts.items c.loop-i.i c.args.in_sequence c.membership_of.result c.args.members.now
      c.index-members-i.result (omega arith) c.index-members-i.is followed c.in_ok-push_part.ensures c.loop-i.invariant.all;
  fits = fits_more c.loop-i.parts.items c.push_part.new.parts.items c.loop-i.i c.membership_of.result c.args.members.now c.index-members-i.result (omega arith)
      c.index-members-i.is c.in_ok-push_part.ensures c.loop-i.invariant.fits;
}
  where
    followed : c.membership_of.result ≡ membership_of c.args.in_sequence (are_some (plain_parts (drop (c.loop-i.i + 1) c.args.members.now)))
    followed = c.membership_of.ensures ∙ ap (membership_of c.args.in_sequence) (follows (c.loop-i.i + 1) c.args.members.now)
