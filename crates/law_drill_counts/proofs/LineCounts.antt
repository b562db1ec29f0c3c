-- The lines of a drill, counted section by section.
use Rattle.std.specs.Prelude.{codes}
use Rattle.std.proofs.Common.{Bool, List, None, Some, [], ap, arith, false, length, refl, suc, sym, subst, true, zero, ℕ, ◌%◌, ◌++◌, ◌+◌, ◌/◌, ◌∙◌, ◌∷◌, ◌≡◌, ◌≤◌}
use Rattle.std.specs.Prelude.{if◌then◌else◌, ◌==◌}
use Rattle.std.proofs.Math.Logic.{∥∥₁_elim}
use Rattle.std.proofs.lemmas.Bool.{eqb-false, eqb-true}
use Rattle.std.proofs.lemmas.List.{append-nil}
use Rattle.std.specs.Coded.{Coded-set, coded_ℕ}
use Rattle.pv_cache.proofs.ListMarks.{verdicts_from}
use Rattle.pv_cache.specs.Moves.{HasOpen}
use Rattle.pv_cli.specs.Drill.{CountsReplies, counts_with, no_counts}
use Rattle.pv_conversation.specs.Session.{RepliesTo, done_of, reply_to}
use Rattle.pv_cli.specs.declared.commands.drill.Counts.{Counts}
use Rattle.pv_dtd.specs.Plain.{PlainDtd}
use Rattle.pv_drill.specs.Drill.{drill_lines, section_line, section_lines}
use Rattle.pv_edit.specs.declared.answers.Done.{Done as WhatWasDone}
use Rattle.pv_missing.proofs.VerdictLists.{one_list_of_verdicts}
use Rattle.pv_missing.specs.VerdictLaws.{NoneImpossible}
use Rattle.pv_missing.specs.Verdicts.{AreVerdicts, HavePossible, possible_in}
use Rattle.law_missing.specs.Dtds.{sections_dtd}
use Rattle.pv_script.specs.Laws.{OneCommand}
use Rattle.pv_script.specs.declared.replies.Reply.{Reply}
use Rattle.pv_session.specs.Sessions.{PlainSession, stamped_document}
use Rattle.pv_session.specs.Steps.{PlainAnswer}
use Rattle.pv_tree.specs.Lists.{Listed, lists_of}
use Rattle.pv_tree.specs.declared.nodes.Verdict.{Verdict}
use Rattle.pv_tree.specs.Plain.{PlainDoc, Tree}
use Rattle.law_drill_tree.proofs.Verdicts.{all_judged, all_possible}
use Rattle.law_drill_tree.specs.Sections.{ahead, all_verdicts, bare_section, drill_doc, trees, with_around, section_wrap}
use Rattle.law_drill_counts.proofs.SectionsAnswered.{behind, length_ahead, length_behind, open_behind, state, state_next}
use Rattle.law_drill_counts.proofs.Lines.{replies_undo, replies_wrap_br, replies_wrap_p}
use Rattle.law_drill_counts.proofs.Steps.{At, Made, br_refused, p_made, undone_at}
use Rattle.law_drill_counts.specs.Counts.{drill_counts}

-- counts by their numbers
abbrev counts_of : ℕ → ℕ → ℕ → ℕ → Counts
counts_of l a r c = record { lines = l; accepted = a; refused = r; checked = c }

counts_same : (l m a b r s c d : ℕ) → l ≡ m → a ≡ b → r ≡ s → c ≡ d → counts_of l a r c ≡ counts_of m b s d
counts_same l m a b r s c d e f g h = cc

-- what was done where so many lists were checked
abbrev checks : ℕ → ℕ → ℕ → WhatWasDone
checks n left bad = record { checked = n; left = left; bad = bad }

two_counted : (j left bad : ℕ) → (suc j % 3 == 0) ≡ false → counts_with (counts_with (drill_counts j) None) (Some (checks 2 left bad)) ≡ drill_counts (suc j)
two_counted j left bad e =
    let rest = eqb-false (suc j % 3) 0 e in
    counts_same _ _ _ _ _ _ _ _ (omega (arith, rest)) (omega (arith, rest)) (omega arith) (omega (arith, rest))

three_counted : (j left bad last worst : ℕ) → (suc j % 3 == 0) ≡ true →
    counts_with (counts_with (counts_with (drill_counts j) None) (Some (checks 2 left bad)))
    (Some (checks 1 last worst)) ≡ drill_counts (suc j)
three_counted j left bad last worst e =
    let none = eqb-true (suc j % 3) 0 e in
    counts_same _ _ _ _ _ _ _ _ (omega (arith, none)) (omega (arith, none)) (omega arith) (omega (arith, none))

-- what is known of lines and of verdicts
pub record LineLaws : Type 0 where
  pub one : OneCommand
  pub none : NoneImpossible Unit

-- the lines for a section in their order
module _ (known : LineLaws) (j m : ℕ) (most : j + suc m ≤ 20000) where
  few : length (behind j) + length (ahead (suc j) m) ≤ 20000
  few = omega (arith, length_behind j, length_ahead (suc j) m)

  abbrev here : List (Tree Unit)
  here = trees (behind j) ++ bare_section (suc j) ∷ trees (ahead (suc j) m)

  abbrev there : List (Tree Unit)
  there = with_around (codes "p") (behind j) (suc j) (ahead (suc j) m)

  br_line : (s next : PlainSession) (told : Reply) → At here s → RepliesTo s (section_line (suc j) 0) told next → (next ≡ s) × (done_of told ≡ None)
  br_line s next told h r =
      let step = replies_wrap_br known.one s next (suc j) told (omega arith) r in
      let refused = br_refused known.none (behind j) (ahead (suc j) m) (suc j) j (length_behind j) few s h next step.0 step.1 in
      (refused.0, ap done_of step.2 ∙ refused.1)

  p_line : (s next : PlainSession) (told : Reply) → At here s → RepliesTo s (section_line (suc j) 1) told next →
      (answer : PlainAnswer) × (left : ℕ) × (bad : ℕ) × Made there (section_wrap (suc j) (codes "p")) s next answer × (done_of told ≡ Some (checks 2 left bad))
  p_line s next told h r =
      let step = replies_wrap_p known.one s next (suc j) told (omega arith) r in
      let made = p_made known.none (behind j) (ahead (suc j) m) (suc j) j (length_behind j) few s h next step.0 step.1 in
      (step.0, made.left, made.bad, made, ap done_of step.2 ∙ ap (λ a. done_of (reply_to a)) made.is_answer)

  undo_line : (s w next : PlainSession) (told : Reply) (answer : PlainAnswer) → At here s → Made there (section_wrap (suc j) (codes "p")) s w answer → RepliesTo w (section_line (suc j) 2) told next →
      (left : ℕ) × (bad : ℕ) × At here next × (done_of told ≡ Some (checks 1 left bad))
  undo_line s w next told answer h made r =
      let step = replies_undo known.one w next (suc j) told r in
      let back = undone_at here there (section_wrap (suc j) (codes "p")) s w next step.0 answer refl h made step.1 in
      (back.1.0, back.1.1, back.0, ap done_of step.2 ∙ ap (λ a. done_of (reply_to a)) back.1.2)

  -- two lines, and a third where it is a third section
  two_lines : (s after : PlainSession) (now : Counts) → (suc j % 3 == 0) ≡ false → At here s → CountsReplies s (drill_counts j) (section_line (suc j) 0 ∷ section_line (suc j) 1 ∷ []) after now →
      At (state (suc j) m) after × (now ≡ drill_counts (suc j))
  two_lines s after now e h (told, next, r, (also, last, q, (is, counted))) =
      let br = br_line s next told h r in
      let p = p_line s last also h (subst (λ (x : PlainSession). RepliesTo x (section_line (suc j) 1) also last) br.0 q) in (
        subst (λ (x : PlainSession). At (state (suc j) m) x) (sym is) (rw (state_next j m false e) p.3.at),
        counted ∙ ap (λ d. counts_with (counts_with (drill_counts j) d) (done_of also)) br.1 ∙ ap (λ d. counts_with (counts_with (drill_counts j) None) d) p.4 ∙ two_counted j p.1 p.2 e,
      )

  three_lines : (s after : PlainSession) (now : Counts) → (suc j % 3 == 0) ≡ true → At here s →
      CountsReplies s (drill_counts j) (section_line (suc j) 0 ∷ section_line
      (suc j) 1 ∷ section_line (suc j) 2 ∷ []) after now →
      At (state (suc j) m) after × (now ≡ drill_counts (suc j))
  three_lines s after now e h (told, next, r, (also, last, q, (third_told, end, u, (is, counted)))) =
      let br = br_line s next told h r in
      let p = p_line s last also h (subst (λ (x : PlainSession). RepliesTo x (section_line (suc j) 1) also last) br.0 q) in
      let back = undo_line s last end third_told p.0 h p.3 u in (
        subst (λ (x : PlainSession). At (state (suc j) m) x) (sym is) (rw (state_next j m true e) back.2),
        counted ∙ ap (λ d. counts_with (counts_with (counts_with (drill_counts j) d) (done_of also)) (done_of third_told)) br.1
            ∙ ap (λ d. counts_with (counts_with (counts_with (drill_counts j) None) d) (done_of third_told)) p.4
            ∙ ap (λ d. counts_with (counts_with (counts_with (drill_counts j) None) (Some (checks 2 p.1 p.2))) d) back.3 ∙ three_counted j p.1 p.2 back.0 back.1 e,
      )

  by_third : (s after : PlainSession) (now : Counts) (third : Bool) → (suc j % 3 == 0) ≡ third → At here s →
      CountsReplies s (drill_counts j) (if third then section_line (suc j) 0 ∷ section_line
      (suc j) 1 ∷ section_line (suc j) 2 ∷ [] else section_line (suc j) 0 ∷ section_line
      (suc j) 1 ∷ []) after now →
      At (state (suc j) m) after × (now ≡ drill_counts (suc j))
  by_third s after now true e h r = three_lines s after now e h r
  by_third s after now false e h r = two_lines s after now e h r

  pub section_counted : (s after : PlainSession) (now : Counts) → At (state j (suc m)) s → CountsReplies s (drill_counts j) (section_lines (suc j)) after now →
      At (state (suc j) m) after × (now ≡ drill_counts (suc j))
  section_counted s after now h r = by_third s after now (suc j % 3 == 0) refl h r

-- replies to lines, and to those after them
counts_split : (s : PlainSession) (before : Counts) (lines more : List (List ℕ)) (after : PlainSession) (now : Counts) → CountsReplies s before (lines ++ more) after now →
    (middle : PlainSession) × (counts : Counts) × CountsReplies s before lines middle counts × CountsReplies middle counts more after now
counts_split s before [] more after now r = (s, before, (refl, refl), r)
counts_split s before (line ∷ lines) more after now (told, next, is, r) =
    let parts = counts_split next (counts_with before (done_of told)) lines more after now r in
    (parts.0, parts.1, (told, next, is, parts.2), parts.3)

-- the lines of the first j sections
pub lines_counted : LineLaws → (j m n : ℕ) → j + m ≡ n → n ≤ 20000 → (s after : PlainSession) (now : Counts) → At (state 0 n) s → CountsReplies s no_counts (drill_lines j) after now →
    At (state j m) after × (now ≡ drill_counts j)
lines_counted known zero m n e most s after now h r =
    let same : n ≡ m = omega arith in
    (subst (λ (x : PlainSession). At (state 0 m) x) (sym r.0) (rw same at h), r.1)
lines_counted known (suc j) m n e most s after now h r =
    let parts = counts_split s no_counts (drill_lines j) (section_lines (suc j)) after now r in
    let before = lines_counted known j (suc m) n (omega arith) most s parts.0 parts.1 h parts.2 in
    section_counted known j m (omega arith) parts.0 after now before.0 (subst (λ (c : Counts). CountsReplies parts.0 c (section_lines (suc j)) after now) before.1 parts.3)

-- verdicts for a DTD and a root under other names
verdicts_for : (g h : PlainDtd) (r s : List ℕ) (lists : List (Listed ℕ)) (vs : List Verdict) → g ≡ h → r ≡ s → AreVerdicts g r lists vs → AreVerdicts h s lists vs
verdicts_for g h r s lists vs e f v = rw (sym e, sym f) v

-- how many lists are Possible at last
open_of : (n : ℕ) (after : PlainSession) (left : ℕ) → 1 ≤ n → At (state n 0) after → HavePossible after.dtd after.root (lists_of after.doc) left → left ≡ n / 3
open_of n after left some h p =
    let judged = all_judged (behind n) (omega (arith, length_behind n)) in
    let whole : drill_doc (state n 0) ≡ drill_doc (trees (behind n)) = ap drill_doc (append-nil (trees (behind n))) in
    let moved = subst (λ (d : PlainDoc Unit). AreVerdicts sections_dtd (codes "doc") (lists_of d) (all_verdicts (behind n))) (sym (h.is_doc ∙ whole)) judged in
    let stamped = verdicts_from {M = ℕ} {N = Unit} (λ _. tt) after.doc sections_dtd (codes "doc") (all_verdicts (behind n)) moved in
    let theirs = verdicts_for after.dtd sections_dtd after.root (codes "doc") (lists_of after.doc) p.verdicts h.is_dtd h.is_root p.are_verdicts in
    p.count ∙ ap possible_in (one_list_of_verdicts ℕ sections_dtd (codes "doc") (lists_of after.doc) p.verdicts (all_verdicts (behind n)) theirs stamped) ∙ all_possible (behind n) ∙ open_behind n

pub open_left : (n : ℕ) (after : PlainSession) (left : ℕ) → 1 ≤ n → At (state n 0) after → HasOpen (stamped_document after) left → left ≡ n / 3
open_left n after left some h p = ∥∥₁_elim p (Coded-set coded_ℕ left (n / 3)) (λ q. open_of n after left some h q)
