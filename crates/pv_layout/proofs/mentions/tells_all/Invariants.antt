use Rattle.std.proofs.Common.{length, ℕ, ◌<◌}
use Rattle.pv_layout.specs.ColumnRules.{IsOneOf}
use Rattle.pv_layout.specs.FormForms.{plain_all}
use Rattle.pv_layout.specs.Forms.{form_at}
use Rattle.pv_layout.specs.Mentions.{IsMentionTold, columns_mentioned}
use Rattle.pv_layout.proofs.mentions.tells_all.Given as goal

abbrev pub invariant-loop-number : goal.invariant-loop-number
invariant-loop-number l = (s d : ℕ) → s < l.number → IsOneOf d (columns_mentioned (form_at (plain_all l.forms) s)) → d < length l.fn.ends → IsMentionTold l.mentions d s
