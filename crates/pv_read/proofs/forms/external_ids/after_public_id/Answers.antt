use Rattle.std.proofs.Common.{sym}
use Rattle.pv_chars.specs.Fronts.{Begins, BeginsNone}
use Rattle.pv_tree.specs.Prolog.{IsSystemLiteral, IsPublicId}
use Rattle.pv_chars.proofs.Options.{match_none, match_same}
use Rattle.pv_read.proofs.ExternalLemmas.{public_by, no_public_word, no_public_literal, no_public_blank, no_public_system}
use Rattle.pv_read.proofs.forms.external_ids.after_public_id.Goals as goal

pub returns-in_err-public : goal.returns-in_err-public
returns-in_err-public c =
    let bytes = c.args.bytes.now in
    match_none _ (BeginsNone IsPublicId bytes) (λ r. Begins IsPublicId bytes r.now) c.from_residual.ensures (no_public_word bytes c.in_err-public.ensures)

pub returns-in_err-between : goal.returns-in_err-between
returns-in_err-between c =
    let bytes = c.args.bytes.now in
    match_none _ (BeginsNone IsPublicId bytes) (λ r. Begins IsPublicId bytes r.now)
    c.from_residual-in_err-between.ensures (no_public_literal bytes c.in_ok-public.public.now
    c.in_ok-public.ensures c.in_err-between.ensures)

pub returns-in_err-system : goal.returns-in_err-system
returns-in_err-system c =
    let bytes = c.args.bytes.now in
    match_none _ (BeginsNone IsPublicId bytes) (λ r. Begins IsPublicId bytes r.now) c.from_residual-in_err-system.ensures
    (no_public_blank bytes c.in_ok-public.public.now c.in_ok-between.between.now c.in_ok-public.ensures c.in_ok-between.ensures (sym c.in_err-system.ensures.after))

pub returns : goal.returns
returns c =
    let bytes = c.args.bytes.now in
    let public = c.in_ok-public.public.now in
    let between = c.in_ok-between.between.now in
    let system = c.in_ok-system.system.now in
    let blank = sym c.in_ok-system.ensures.after in
    match_same _ (BeginsNone IsSystemLiteral system) (BeginsNone IsPublicId bytes) (λ r. Begins IsSystemLiteral system r.now) (λ r. Begins IsPublicId bytes r.now)
    (no_public_system bytes public between system c.in_ok-public.ensures c.in_ok-between.ensures blank)
    (λ r b. public_by bytes r.now record { public = public; between = between; system = system; word = c.in_ok-public.ensures; is_public = c.in_ok-between.ensures; blank = blank; is_system = b })
    c.after_system_literal.ensures
