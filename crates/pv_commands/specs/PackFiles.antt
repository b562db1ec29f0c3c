-- Reading the pack of a command.
use Rattle.std.specs.Prelude.{◌≡◌, ℕ, List, ◌++◌, codes, decimal, Option}
use Rattle.pv_cert.specs.Meaning.{MAX_PACK_BYTES, PackMeans, is_fault, is_pack, is_past_limit}
use Rattle.pv_cert.specs.declared.packs.Pack.{Pack}
use Rattle.pv_opening.specs.declared.status.Status.TheVariants.{BadPack, Limit}
use Rattle.pv_opening.specs.Opening.{file_stage}
use Rattle.pv_opening.specs.Response.{PlainResponse, with_line}
use Rattle.pv_opening.specs.Stage.{Stage, without_fetch}

-- the response to bytes that are no pack: after so many whole lines stands none that may stand
-- there; or the pack has too many entries
pub data RefusesPack (bytes : List ℕ) (r : PlainResponse) : Type 0 where
  no_pack : (k : ℕ) → PackMeans bytes (is_fault k) →
      r ≡ with_line BadPack (codes "pack line " ++ decimal k) → RefusesPack bytes r
  too_large : PackMeans bytes is_past_limit → r ≡ with_line Limit (codes "limit pack") →
      RefusesPack bytes r

-- reading a pack
abbrev pub pack_stage : List ℕ → Stage Pack
pack_stage bytes = without_fetch (λ pack. PackMeans bytes (is_pack pack)) (RefusesPack bytes)

-- the pack of a file
abbrev pub pack_file_stage : Option (List ℕ) → Stage Pack
pack_file_stage file = file_stage file MAX_PACK_BYTES (codes "limit pack-file") pack_stage
