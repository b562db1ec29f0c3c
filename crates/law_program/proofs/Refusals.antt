-- No refusal has the status of a run that did all.
use Rattle.std.proofs.Common.{◌≡◌, ◌∙◌, inl, inr, ℕ, List, Option, ap, refl, sym}
use Rattle.pv_dtd.specs.Kinds.{parameter, nesting, syntax, twice, mixed_twice, limit}
use Rattle.pv_params.specs.Meaning.{conditional, external, undeclared, recursive}
use Rattle.pv_params.specs.Meaning.{limit as params_limit, syntax as params_syntax}
use Rattle.pv_read.specs.Kinds.{subset, syntax as bad_syntax, entity, mismatch, doctype_name, deep}
use Rattle.pv_commands.specs.DenialFiles.{denial_file_stage, no_denial}
use Rattle.pv_commands.specs.DenialFiles.{too_large as too_large_denial}
use Rattle.pv_opening.specs.Documents.{RefusesDocument, no_document, too_many_bytes}
use Rattle.pv_opening.specs.Opening.{Files, IsFileTooLong, RefusesDtd, dtd_file_stage, no_dtd}
use Rattle.pv_opening.specs.Opening.{opening_stage}
use Rattle.pv_commands.specs.PackFiles.{no_pack, pack_file_stage, too_large}
use Rattle.pv_opening.specs.Parameters.{RefusesParameters, not_expanded}
use Rattle.pv_opening.specs.Response.{PlainResponse}
use Rattle.pv_opening.specs.declared.status.Status.{Status}
use Rattle.pv_opening.specs.declared.status.Status.TheVariants.{BadDocument, BadDtd, BadPack, Done}
use Rattle.pv_opening.specs.declared.status.Status.TheVariants.{Limit}

-- all was not done
abbrev pub IsUndone : PlainResponse → Type 0
IsUndone r = r.status ≡ Done → ⊥

no_dtd_done : BadDtd ≡ Done → ⊥
no_dtd_done e = cc

no_document_done : BadDocument ≡ Done → ⊥
no_document_done e = cc

no_pack_done : BadPack ≡ Done → ⊥
no_pack_done e = cc

no_limit_done : Limit ≡ Done → ⊥
no_limit_done e = cc

pub undone : (status : Status) (r told : PlainResponse) → (status ≡ Done → ⊥) → r ≡ told →
    told.status ≡ status → IsUndone r
undone status r told never is at done =
    never (sym at ∙ (sym (ap (λ (p : PlainResponse). p.status) is) ∙ done))

dtd_undone : (bytes : List ℕ) (r : PlainResponse) → RefusesDtd bytes r → IsUndone r
dtd_undone bytes r (no_dtd parameter k means is) = undone BadDtd r _ no_dtd_done is refl
dtd_undone bytes r (no_dtd nesting k means is) = undone Limit r _ no_limit_done is refl
dtd_undone bytes r (no_dtd syntax k means is) = undone BadDtd r _ no_dtd_done is refl
dtd_undone bytes r (no_dtd twice k means is) = undone BadDtd r _ no_dtd_done is refl
dtd_undone bytes r (no_dtd mixed_twice k means is) = undone BadDtd r _ no_dtd_done is refl
dtd_undone bytes r (no_dtd limit k means is) = undone Limit r _ no_limit_done is refl

parameters_undone : (bytes : List ℕ) (r : PlainResponse) → RefusesParameters bytes r → IsUndone r
parameters_undone bytes r (not_expanded conditional e is) = undone BadDtd r _ no_dtd_done is refl
parameters_undone bytes r (not_expanded external e is) = undone BadDtd r _ no_dtd_done is refl
parameters_undone bytes r (not_expanded undeclared e is) = undone BadDtd r _ no_dtd_done is refl
parameters_undone bytes r (not_expanded recursive e is) = undone BadDtd r _ no_dtd_done is refl
parameters_undone bytes r (not_expanded params_syntax e is) = undone BadDtd r _ no_dtd_done is refl
parameters_undone bytes r (not_expanded params_limit e is) = undone Limit r _ no_limit_done is refl

document_undone : (root bytes : List ℕ) (r : PlainResponse) → RefusesDocument root bytes r →
    IsUndone r
document_undone root bytes r (no_document subset k means is) =
    undone BadDocument r _ no_document_done is refl
document_undone root bytes r (no_document bad_syntax k means is) =
    undone BadDocument r _ no_document_done is refl
document_undone root bytes r (no_document entity k means is) =
    undone BadDocument r _ no_document_done is refl
document_undone root bytes r (no_document mismatch k means is) =
    undone BadDocument r _ no_document_done is refl
document_undone root bytes r (no_document doctype_name k means is) =
    undone BadDocument r _ no_document_done is refl
document_undone root bytes r (no_document deep k means is) = undone Limit r _ no_limit_done is refl
document_undone root bytes r (too_many_bytes means is) = undone Limit r _ no_limit_done is refl

pub too_long_undone : (file : Option (List ℕ)) (most : ℕ) (passed : List ℕ) (r : PlainResponse) →
    IsFileTooLong file most passed r → IsUndone r
too_long_undone file most passed r long = undone Limit r _ no_limit_done long.is_response refl

pub dtd_file_undone : (file : Option (List ℕ)) (r : PlainResponse) (k : ℕ) →
    (dtd_file_stage file).Refuses r k → IsUndone r
dtd_file_undone file r k (inl long) = too_long_undone file _ _ r long.0
dtd_file_undone file r k (inr (bytes, i, j, given, inl denies, e)) =
    parameters_undone bytes r denies.0
dtd_file_undone file r k (inr (bytes, i, j, given, inr (text, u, v, expands, denies, f), e)) =
    dtd_undone text r denies.0

pub opening_undone : (root : List ℕ) (files : Files) (r : PlainResponse) (k : ℕ) →
    (opening_stage root files).Refuses r k → IsUndone r
opening_undone root files r k (inl (inl file)) = dtd_file_undone _ r k file
opening_undone root files r k (inl (inr (g, i, j, opens, long, e))) = too_long_undone _ _ _ r long.0
opening_undone root files r k (inr (both, i, j, fetched, denies, e)) =
    document_undone root both.1 r denies.0

pub pack_file_undone : (file : Option (List ℕ)) (r : PlainResponse) (k : ℕ) →
    (pack_file_stage file).Refuses r k → IsUndone r
pack_file_undone file r k (inl long) = too_long_undone file _ _ r long.0
pack_file_undone file r k (inr (bytes, i, j, given, (no_pack n means is, e), f)) =
    undone BadPack r _ no_pack_done is refl
pack_file_undone file r k (inr (bytes, i, j, given, (too_large past is, e), f)) =
    undone Limit r _ no_limit_done is refl

pub denial_file_undone : (file : Option (List ℕ)) (r : PlainResponse) (k : ℕ) →
    (denial_file_stage file).Refuses r k → IsUndone r
denial_file_undone file r k (inl long) = too_long_undone file _ _ r long.0
denial_file_undone file r k (inr (bytes, i, j, given, (no_denial n means is, e), f)) =
    undone BadPack r _ no_pack_done is refl
denial_file_undone file r k (inr (bytes, i, j, given, (too_large_denial past is, e), f)) =
    undone Limit r _ no_limit_done is refl
