-- A text means a DTD exactly where it is a text of this DTD and keeps the limits.
use Rattle.std.proofs.Common.{◌≡◌, ℕ, List, [], refl, sym, subst, arith}
use Rattle.pv_dtd.specs.Plain.{PlainDtd}
use Rattle.pv_dtd.specs.Meaning.{Outcome, is_dtd, DtdTextMeans, too_long, items}
use Rattle.pv_dtd.specs.DtdTexts.{IsDtdText, KeepsLimits}
use Rattle.pv_dtd.specs.SoFar.{AreRuled}
use Rattle.pv_dtd.specs.Laws.{MeansDtd}
use Rattle.pv_dtd.proofs.SubsetMeaning.{read, means, to_subset, from_subset}
use Rattle.pv_dtd.proofs.TextLimits.{listed_once, limits_kept, ruled}

none_ruled : AreRuled []
none_ruled = record { sound = tt; once = refl; few_types = omega arith; few_parts = omega arith }

to_text : (bytes : List ℕ) (g : PlainDtd) {o : Outcome} → DtdTextMeans bytes o → o ≡ is_dtd g → IsDtdText bytes g × KeepsLimits bytes g
to_text bytes g (too_long long) e = cc
to_text bytes g (items {rest} few mark m) e =
    let r = read m g e none_ruled in (
      record {
        items = r.items;
        rest = rest;
        behind_mark = mark;
        spelled = to_subset r.items rest r.spelled;
        declared_once = r.ruled.once;
        listed_once = listed_once r.items r.ruled;
        is_dtd = r.is_dtd;
      },
      subst (KeepsLimits bytes) (sym r.is_dtd) (limits_kept bytes r.items few r.ruled),
    )

from_text : (bytes : List ℕ) (g : PlainDtd) → IsDtdText bytes g → KeepsLimits bytes g → DtdTextMeans bytes (is_dtd g)
from_text bytes g t k =
    let held = subst (KeepsLimits bytes) t.is_dtd k in
    let all = ruled bytes t.rest t.items t.spelled t.declared_once t.listed_once held in
    subst (λ o. DtdTextMeans bytes (is_dtd o)) (sym t.is_dtd) (items k.few_bytes t.behind_mark (means t.items [] t.rest (from_subset t.items t.rest t.spelled) all))

pub means_dtd : MeansDtd
means_dtd bytes g = (λ m. to_text bytes g m refl, λ t. from_text bytes g t.0 t.1)
