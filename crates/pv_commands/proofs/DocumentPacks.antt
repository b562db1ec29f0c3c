-- The pack of a document is found, or what has none is refused.
use Rattle.std.proofs.Common.{◌≡◌, inl, inr, Err, List, Result, ap, refl, subst, sym, ℕ}
use Rattle.pv_cert.specs.Packs.{lines_of_pack, lines_text}
use Rattle.pv_cert.specs.declared.packs.Pack.{Pack}
use Rattle.pv_complete.specs.NeededElements.{CanNeed, HasCause}
use Rattle.pv_complete.specs.Tables.{HasTablesCause}
use Rattle.pv_complete.specs.declared.errors.NeedError.{NeedError}
use Rattle.pv_complete.specs.declared.errors.NeedError.TheVariants as error
use Rattle.pv_dtd.specs.Plain.{PlainDtd}
use Rattle.pv_dtd.specs.Proper.{IsProperDtd}
use Rattle.pv_missing.proofs.DocLists.{live_locality}
use Rattle.pv_missing.specs.Proper.{IsProperDoc}
use Rattle.pv_missing.specs.Verdicts.{IsLive}
use Rattle.pv_tree.specs.Lists.{lists_of}
use Rattle.pv_tree.specs.Plain.{PlainDoc}
use Rattle.pv_tree.specs.declared.nodes.Mark.{Mark}
use Rattle.pv_commands.specs.Complete.{IsPackOfCompletion, IsVerifiable, TellsPack, has_too_many}
use Rattle.pv_commands.specs.Complete.{is_heavy, is_pack, is_wide}
use Rattle.pv_opening.specs.Course.{Course, responds, without_input}
use Rattle.pv_commands.specs.PackRefusals.{IsRefusalFor}
use Rattle.pv_opening.specs.Possibility.{is_impossible, is_too_wide, possibility_stage}
use Rattle.pv_opening.specs.Response.{PlainResponse, plain_response}
use Rattle.pv_opening.specs.Returns.{TakesCourse, RefusesWith}
use Rattle.pv_opening.specs.Stage.{Behind, Responds, opened, refused, responded, short_of_memory}
use Rattle.pv_opening.specs.declared.response.Response.{Response}
use Rattle.pv_opening.specs.declared.status.Status.TheVariants.{Done}
use Rattle.pv_opening.specs.declared.stop.Stop.{Stop}
use Rattle.pv_opening.specs.declared.stop.Stop.TheVariants.{NoMemory, Refused, ShelfFault}
use Rattle.pv_opening.proofs.OnePossibility.{none_first}

-- why there is no completion is why there are no tables
pub tables_cause : {M : Type 0} (g : PlainDtd) (root : List ℕ) (doc : PlainDoc M) (e : NeedError) →
    HasCause g root doc e → HasTablesCause g root doc e
tables_cause g root doc (error.Impossible path) cause = cause
tables_cause g root doc (error.TooWide path) cause = cause
tables_cause g root doc error.TooHeavy cause = cause
tables_cause g root doc error.TooMany cause = absurd cause
tables_cause g root doc error.NoMemory cause = tt

module _ (root : List ℕ) (g : PlainDtd) (doc : PlainDoc Mark) where
  abbrev pub IsPackCourse : Course → Type 0
  IsPackCourse = Behind (possibility_stage root g doc) (λ _. Responds (TellsPack root g doc))

  passes : CanNeed g root doc → (possibility_stage root g doc).Opens tt 0
  passes can = (tt, 0, 0, (can.narrow, refl), (can.possible, refl), refl)

  told_behind : (r : PlainResponse) → CanNeed g root doc → TellsPack root g doc r →
      IsPackCourse (without_input 0 (responds r))
  told_behind r can told = opened tt 0 _ (passes can) (responded r told refl) refl

  refused_by : (e : NeedError) (r : Response) → IsProperDtd g → IsProperDoc doc →
      HasTablesCause g root doc e → IsRefusalFor e (plain_response r) →
      TakesCourse IsPackCourse (Err (Refused r))
  refused_by (error.Impossible path) r dtd proper stops told =
      let by_lists = live_locality Mark g root doc dtd proper in
      refused (plain_response r) 0
      (inr (
        tt,
        0,
        0,
        (stops.narrow, refl),
        (
          is_impossible path
              (λ possible. none_first (IsLive g root) (lists_of doc) path (by_lists.0 possible)
              stops.first)
              stops.first told,
          refl,
        ),
        refl,
      )) refl
  refused_by (error.TooWide path) r dtd proper (inl first) told =
      refused (plain_response r) 0 (inl (is_too_wide path first told, refl)) refl
  refused_by (error.TooWide path) r dtd proper (inr stops) told =
      opened tt 0 _ (tt, 0, 0, (stops.narrow, refl), (stops.possible, refl), refl)
      (responded (plain_response r) (is_wide path stops told) refl) refl
  refused_by error.TooHeavy r dtd proper heavy told =
      told_behind (plain_response r) heavy.can (is_heavy heavy told)
  refused_by error.TooMany r dtd proper many told =
      told_behind (plain_response r) many.needs.can (has_too_many many told)
  refused_by error.NoMemory r dtd proper cause told = absurd told

  -- what has no pack is refused
  pub found_refused : (e : NeedError) (stop : Stop) → IsProperDtd g → IsProperDoc doc →
      HasTablesCause g root doc e → RefusesWith (IsRefusalFor e) stop →
      TakesCourse IsPackCourse (Err stop)
  found_refused e (Refused r) dtd proper cause told = refused_by e r dtd proper cause told
  found_refused e ShelfFault dtd proper cause told = absurd told
  found_refused e NoMemory dtd proper cause told = short_of_memory 0 (inl refl) refl

-- a course of `complete` on the arguments is one on the opened files, which equal them
pub packs_as : (root : List ℕ) (g d : PlainDtd) (doc same : PlainDoc Mark)
    (result : Result Response Stop) → d ≡ g → same ≡ doc →
    TakesCourse (IsPackCourse root g doc) result → TakesCourse (IsPackCourse root d same) result
packs_as root g d doc same result is are finds =
    subst (λ (h : PlainDtd). TakesCourse (IsPackCourse root h same) result) (sym is)
    (subst (λ (s : PlainDoc Mark). TakesCourse (IsPackCourse root g s) result) (sym are) finds)

-- the pack of the opened files is told
pub packs_told : (root : List ℕ) (g d : PlainDtd) (doc same : PlainDoc Mark) (pack : Pack)
    (output : List ℕ) → d ≡ g → same ≡ doc → IsPackOfCompletion root g doc pack →
    IsVerifiable root g doc pack → output ≡ lines_text (lines_of_pack pack) →
    IsPackCourse root d same
    (without_input 0 (responds (record { status = Done; output = output })))
packs_told root g d doc same pack output is are least verifiable spelled =
    let r : PlainResponse = record { status = Done; output = output } in
    let told = told_behind root g doc r least.completion.needs.can
    (is_pack pack least verifiable
    (ap (λ (out : List ℕ). record { status = Done; output = out }) spelled)) in
    subst (λ (h : PlainDtd). IsPackCourse root h same (without_input 0 (responds r))) (sym is)
    (subst (λ (s : PlainDoc Mark). IsPackCourse root g s (without_input 0 (responds r))) (sym are)
    told)
