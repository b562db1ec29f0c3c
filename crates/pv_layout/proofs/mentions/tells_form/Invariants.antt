use Rattle.std.proofs.Common.{Some, length, slice_get, ℕ, ◌<◌, ◌≡◌}
use Rattle.pv_layout.specs.FormForms.{plain_form}
use Rattle.pv_layout.specs.Mentions.{IsMentionTold, columns_mentioned}
use Rattle.pv_layout.proofs.mentions.tells_form.Given as goal

abbrev pub invariant-loop-place : goal.invariant-loop-place
invariant-loop-place l = (k d : ℕ) → k < l.place → slice_get (columns_mentioned (plain_form l.form)) k ≡ Some d → d < length l.fn.ends → IsMentionTold l.mentions d l.number
