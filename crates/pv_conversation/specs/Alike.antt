-- Replies, outputs and responses that are the same but for the documents that completions show.
use Rattle.std.specs.Prelude.{◌≡◌, ℕ, List, ◌++◌}
use Rattle.pv_script.specs.Replies.{reply_bytes}
use Rattle.pv_script.specs.declared.replies.Reply.{Reply}
use Rattle.pv_script.specs.declared.replies.Reply.TheVariants as reply
use Rattle.pv_opening.specs.Response.{PlainResponse}

-- One reply, or two that show a completion, with the same number of inserted elements.
pub data RepliesAlike (told also : Reply) : Type 0 where
  are_one : told ≡ also → RepliesAlike told also
  are_completions : (k : ℕ) (body other : List ℕ) → told ≡ reply.Completed k body →
      also ≡ reply.Completed k other → RepliesAlike told also

-- The bytes of replies, each like the one in its place among the other bytes, and the same bytes
-- after them.
pub data OutputsAlike : List ℕ → List ℕ → Type 0 where
  ends_alike : {out also : List ℕ} → out ≡ also → OutputsAlike out also
  begins_alike : {out also : List ℕ} (told other : Reply) (rest more : List ℕ) →
      RepliesAlike told other → OutputsAlike rest more →
      out ≡ reply_bytes told ++ rest → also ≡ reply_bytes other ++ more → OutputsAlike out also

-- two responses with one status, and outputs that are alike
pub record ResponsesAlike (r also : PlainResponse) : Type 0 where
  pub status : r.status ≡ also.status
  pub output : OutputsAlike r.output also.output
