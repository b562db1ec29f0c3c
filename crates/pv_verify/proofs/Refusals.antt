-- Why a pack has no answer, by why its document isn't read.
use Rattle.std.proofs.Common.{List, refl, subst, sym, ℕ, ◌≡◌}
use Rattle.pv_dtd.specs.Plain.{PlainDtd}
use Rattle.pv_tree.specs.Marks.{blank_mark}
use Rattle.pv_read.specs.Errors.{Refuses}
use Rattle.pv_read.specs.Meaning.{DocumentMeans}
use Rattle.pv_read.specs.declared.errors.DocError.{DocError}
use Rattle.pv_read.specs.declared.errors.DocError.TheVariants as document
use Rattle.pv_cert.specs.declared.packs.Pack.{Pack}
use Rattle.pv_verify.specs.Answers.{RefusesToVerify, RefusesUnread}
use Rattle.pv_verify.specs.declared.errors.VerifyError.{VerifyError}
use Rattle.pv_verify.specs.declared.errors.VerifyError.TheVariants as error

pub told : (e : DocError) → (e ≡ document.NoMemory → ⊥) → RefusesUnread e (error.Document e)
told (document.Syntax k) other = refl
told (document.Mismatch k) other = refl
told (document.Entity k) other = refl
told document.Subset other = refl
told document.DoctypeName other = refl
told (document.Deep k) other = refl
told document.Limit other = refl
told document.NoMemory other = absurd (other refl)

module _ (g : PlainDtd) (root bytes : List ℕ) (pack : Pack) where
  pub refused : (e : DocError) (v : VerifyError) → Refuses (DocumentMeans blank_mark root bytes) e → RefusesUnread e v → RefusesToVerify g root bytes pack v
  refused (document.Syntax k) v r is = subst (RefusesToVerify g root bytes pack) (sym is) (r, λ h. cc)
  refused (document.Mismatch k) v r is = subst (RefusesToVerify g root bytes pack) (sym is) (r, λ h. cc)
  refused (document.Entity k) v r is = subst (RefusesToVerify g root bytes pack) (sym is) (r, λ h. cc)
  refused document.Subset v r is = subst (RefusesToVerify g root bytes pack) (sym is) (r, λ h. cc)
  refused document.DoctypeName v r is = subst (RefusesToVerify g root bytes pack) (sym is) (r, λ h. cc)
  refused (document.Deep k) v r is = subst (RefusesToVerify g root bytes pack) (sym is) (r, λ h. cc)
  refused document.Limit v r is = subst (RefusesToVerify g root bytes pack) (sym is) (r, λ h. cc)
  refused document.NoMemory v r is = subst (RefusesToVerify g root bytes pack) (sym is) tt
