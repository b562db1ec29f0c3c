-- The session that the document of a drill begins.
use Rattle.std.specs.Prelude.{codes}
use Rattle.std.proofs.Common.{List, [], ap, arith, refl, subst, ℕ, ◌∙◌, ◌≡◌}
use Rattle.std.specs.List.{AllByRecursion}
use Rattle.std.proofs.lemmas.List.{length-map}
use Rattle.pv_cache.proofs.RemarkedDocuments.{twice}
use Rattle.pv_cache.proofs.ListMarks.{all_narrow_to}
use Rattle.law_program.proofs.OneDrill.{drill_sure}
use Rattle.pv_opening.proofs.OneOpening.{ReadsOne}
use Rattle.pv_cli.specs.CommandLine.{IsDrillSize}
use Rattle.pv_opening.specs.Documents.{PlainOpened}
use Rattle.pv_cli.specs.Drill.{drill_stage, reading_stage}
use Rattle.pv_opening.specs.Response.{PlainResponse}
use Rattle.pv_conversation.specs.Session.{guarding_stage}
use Rattle.pv_drill.specs.Drill.{drill_text}
use Rattle.pv_dtd.specs.Laws.{OneMeaning}
use Rattle.law_missing.specs.Dtds.{sections_dtd}
use Rattle.pv_missing.specs.Widths.{IsListForVerdict}
use Rattle.pv_session.proofs.StampsAlone.{begun_unmarked, unmarked_bare}
use Rattle.pv_session.specs.Sessions.{PlainSession, session_on}
use Rattle.pv_tree.specs.Lists.{lists_of}
use Rattle.pv_tree.specs.Marks.{blank_mark, unmarked_doc}
use Rattle.pv_tree.specs.Plain.{Tree}
use Rattle.pv_tree.specs.declared.nodes.Mark.{Mark}
use Rattle.law_drill_tree.specs.Laws.{MeansDrillDtd, SpellsDrillDocument}
use Rattle.law_drill_tree.specs.Sections.{ahead, drill_doc, marked_doc, root_tree, section_tree, trees}
use Rattle.law_drill_counts.proofs.SectionsAnswered.{length_ahead, state}
use Rattle.law_drill_counts.proofs.Limits.{narrow_doc}
use Rattle.law_drill_counts.proofs.Steps.{At}
use Rattle.law_drill_counts.specs.Counts.{DrillsBegin}

-- what is known of texts
pub record Reading : Type 0 where
  pub one : OneMeaning
  pub documents : ReadsOne
  pub drill_dtd : MeansDrillDtd
  pub drill_document : SpellsDrillDocument

bare_marks : (ts : List (Tree Unit)) → unmarked_doc (marked_doc ts) ≡ drill_doc ts
bare_marks ts =
    ap (λ (t : Tree Unit). record { before = []; root = t; after = []; mark = tt }) (twice {M = Unit} {N = Mark} (λ _. blank_mark) (root_tree ts))
    ∙ unmarked_bare (drill_doc ts)

-- the session on the document with all sections as they were
abbrev drill_session : ℕ → PlainSession
drill_session n = session_on sections_dtd (codes "doc") (unmarked_doc (marked_doc (trees (ahead 0 n))))

begun_at : (n : ℕ) → At (state 0 n) (drill_session n)
begun_at n =
    let doc = marked_doc (trees (ahead 0 n)) in
    let stamps = begun_unmarked {M = Unit} (unmarked_doc doc) ∙ unmarked_bare (unmarked_doc doc) in
    record { is_dtd = refl; is_root = refl; is_doc = stamps ∙ bare_marks (trees (ahead 0 n)); replays = stamps }

-- the document and its bytes
abbrev drill_opened : ℕ → PlainOpened
drill_opened n = record { dtd = sections_dtd; bytes = drill_text n; doc = marked_doc (trees (ahead 0 n)) }

narrow : (n : ℕ) → IsDrillSize n → AllByRecursion (IsListForVerdict sections_dtd) (lists_of (marked_doc (trees (ahead 0 n))))
narrow n size =
    let few = length_ahead 0 n in
    let sections = length-map (ahead 0 n) section_tree in
    all_narrow_to {M = Unit} {N = Mark} (λ _. blank_mark) (drill_doc (trees (ahead 0 n))) sections_dtd (narrow_doc (ahead 0 n) (omega (arith, sections, few, size.1)))

begins : (n : ℕ) → IsDrillSize n → (guarding_stage (codes "doc") sections_dtd (marked_doc (trees (ahead 0 n)))).Opens (drill_session n) 0
begins n size = (tt, 0, 0, (narrow n size, refl), (refl, refl), refl)

reads : Reading → (n : ℕ) → IsDrillSize n → (reading_stage n).Opens (drill_opened n) 0
reads known n size = (sections_dtd, 0, 0, (known.drill_dtd, refl), (record { is_dtd = refl; are_bytes = refl; is_text = known.drill_document n size.1 }, refl), refl)

opens : Reading → (n : ℕ) → IsDrillSize n → (drill_stage n).Opens (drill_session n) 0
opens known n size = (drill_opened n, 0, 0, reads known n size, begins n size, refl)

pub drills_begin : Reading → DrillsBegin
drills_begin known n size = (drill_session n, opens known n size)

-- so each session that it begins is that one
pub opened_at : Reading → (n : ℕ) → IsDrillSize n → (session : PlainSession) (k : ℕ) → (drill_stage n).Opens session k → At (state 0 n) session
opened_at known n size session k there =
    let same = (drill_sure known.one known.documents n).same (drill_session n) session 0 k (opens known n size) there in
    subst (λ (s : PlainSession). At (state 0 n) s) same (begun_at n)

-- and nothing of it is refused
pub never_refused : Reading → (n : ℕ) → IsDrillSize n → (r : PlainResponse) (k : ℕ) → (drill_stage n).Refuses r k → ⊥
never_refused known n size r k refuses = (drill_sure known.one known.documents n).opens_or (drill_session n) r 0 k (opens known n size) refuses
