-- The causes of responses to a text and ranges.
use Rattle.std.proofs.Common.{◌≡◌, inl, inr, ℕ, List, Option, Some, Ok, Err, ap, refl, sym, ◌∙◌}
use Rattle.std.proofs.Common.{subst}
use Rattle.pv_dtd.specs.Meaning.{DtdTextMeans, is_dtd}
use Rattle.pv_dtd.specs.Plain.{PlainDtd}
use Rattle.pv_chars.specs.Units.{TextMeans}
use Rattle.pv_chars.specs.declared.errors.TextError.{TextError}
use Rattle.pv_chars.specs.declared.errors.TextError.TheVariants as bad_text
use Rattle.pv_standoff.specs.NestOutcomes.{NestMeans}
use Rattle.pv_standoff.specs.declared.errors.NestError.{NestError}
use Rattle.pv_standoff.specs.declared.errors.NestError.TheVariants as bad_nest
use Rattle.pv_standoff.specs.declared.errors.RangesError.TheVariants as bad_line
use Rattle.pv_standoff.specs.declared.ranges.Range.{Range}
use Rattle.pv_tree.specs.Plain.{PlainDoc}
use Rattle.pv_tree.specs.declared.nodes.Mark.{Mark}
use Rattle.law_program.specs.Causes.{ReadsAnnotation, ReadsNested, nested_depth, nested_impossible}
use Rattle.law_program.specs.Causes.{nested_width, range_lines, ranges_file, text_file, RespondsBy}
use Rattle.pv_cli.specs.CommandLine.{PlainCommandLine, on_ranges}
use Rattle.pv_opening.specs.Course.{Course, responds}
use Rattle.pv_opening.specs.Opening.{Files, file_at}
use Rattle.pv_opening.specs.Possibility.{RefusesWidth, TellsPossibility, is_impossible, is_no_more}
use Rattle.pv_opening.specs.Possibility.{is_possible, is_too_wide, width_stage}
use Rattle.pv_opening.specs.Response.{PlainResponse}
use Rattle.pv_opening.specs.Stage.{Responds}
use Rattle.pv_commands.specs.Standoff.{IsShownCourse, RefusesNesting, RefusesRanges, RefusesText}
use Rattle.pv_commands.specs.Standoff.{TellsNested, annotation_stage, nested_stage}
use Rattle.pv_commands.specs.Standoff.{no_document as no_nesting, no_ranges, no_text}
use Rattle.pv_opening.specs.declared.status.Status.TheVariants.{BadDocument, BadPack, Limit}
use Rattle.law_program.proofs.ResponseCauses.{behind_by, by_status, file_refused, responds_by}

-- a text, ranges, and the document that stands for them
module _ (dtd root text ranges : List ℕ) (files : Files) (taken : Option (List ℕ)) where
  abbrev ranges_line : Option PlainCommandLine
  ranges_line = Some (on_ranges dtd root text ranges)

  faulty_text : (bytes : List ℕ) (e : TextError) (r told : PlainResponse) →
      file_at 1 files ≡ Some bytes → TextMeans bytes (Err e) → r ≡ told →
      told.status ≡ BadDocument → RespondsBy ranges_line files taken r.status
  faulty_text bytes e r told file means is at =
      by_status ranges_line files taken BadDocument r told is
      at (inr record { root = root; bytes = bytes; reads = (refl, file); fault = e; means = means })

  text_refused : (bytes : List ℕ) (r : PlainResponse) → file_at 1 files ≡ Some bytes →
      RefusesText bytes r → RespondsBy ranges_line files taken r.status
  text_refused bytes r file (no_text bad_text.Empty means is) =
      faulty_text bytes bad_text.Empty r _ file means is refl
  text_refused bytes r file (no_text (bad_text.BadChar place) means is) =
      faulty_text bytes (bad_text.BadChar place) r _ file means is refl
  text_refused bytes r file (no_text (bad_text.BadReference place) means is) =
      faulty_text bytes (bad_text.BadReference place) r _ file means is refl
  text_refused bytes r file (no_text (bad_text.Entity place) means is) =
      faulty_text bytes (bad_text.Entity place) r _ file means is refl
  text_refused bytes r file (no_text (bad_text.CloseMark place) means is) =
      faulty_text bytes (bad_text.CloseMark place) r _ file means is refl
  text_refused bytes r file (no_text bad_text.NoMemory means is) = absurd is

  ranges_refused : (bytes : List ℕ) (r : PlainResponse) → file_at 2 files ≡ Some bytes →
      RefusesRanges bytes r → RespondsBy ranges_line files taken r.status
  ranges_refused bytes r file (no_ranges (bad_line.Syntax k) means is) =
      by_status ranges_line files taken BadPack r _ is refl
      (inr (inl record { bytes = bytes; reads = file; lines = k; means = means }))
  ranges_refused bytes r file (no_ranges bad_line.Limit means is) =
      by_status ranges_line files taken Limit r _ is refl (range_lines bytes file means)
  ranges_refused bytes r file (no_ranges bad_line.NoMemory means is) = absurd is

  unnested : (g : PlainDtd) (units : List (List ℕ)) (rs : List Range) (e : NestError)
      (r told : PlainResponse) → ReadsAnnotation ranges_line files root g units rs →
      NestMeans root units rs (Err e) → (e ≡ bad_nest.Deep → ⊥) →
      r ≡ told → told.status ≡ BadPack → RespondsBy ranges_line files taken r.status
  unnested g units rs e r told reads means other is at =
      by_status ranges_line files taken BadPack r told is
      at (inr (inr
      (inl record {
        root = root;
        g = g;
        text = units;
        ranges = rs;
        reads = reads;
        fault = e;
        means = means;
        no_limit = other;
      })))

  nesting_refused : (g : PlainDtd) (units : List (List ℕ)) (rs : List Range) (r : PlainResponse) →
      ReadsAnnotation ranges_line files root g units rs → RefusesNesting root units rs r →
      RespondsBy ranges_line files taken r.status
  nesting_refused g units rs r reads (no_nesting (bad_nest.Outside k) means is) =
      unnested g units rs (bad_nest.Outside k) r _ reads means (λ e. cc) is refl
  nesting_refused g units rs r reads (no_nesting (bad_nest.Twice from to level) means is) =
      unnested g units rs (bad_nest.Twice from to level) r _ reads means (λ e. cc) is refl
  nesting_refused g units rs r reads (no_nesting (bad_nest.Crossing from to after past) means is) =
      unnested g units rs (bad_nest.Crossing from to after past) r _ reads means (λ e. cc) is refl
  nesting_refused g units rs r reads (no_nesting bad_nest.Deep means is) =
      by_status ranges_line files taken Limit r _ is refl (nested_depth root g units rs reads means)
  nesting_refused g units rs r reads (no_nesting bad_nest.NoMemory means is) = absurd is

  pub annotation_reads : (given : (PlainDtd × List (List ℕ)) × List Range) (k : ℕ) →
      (annotation_stage files).Opens given k →
      ReadsAnnotation ranges_line files root given.0.0 given.0.1 given.1
  annotation_reads given k (
    both,
    i,
    j,
    (
      g,
      a,
      b,
      (bytes, u, v, fetched, (expansion, x, y, expands, means, l), e),
      (same, (text_bytes, m, n, text_given, reads_text, f)),
      h,
    ),
    (are, (lines, p, q, lines_given, reads_lines, o)),
    z,
  ) = record {
    dtd_bytes = expansion;
    reads_dtd = record { bytes = bytes; is_file = fetched.0.is_file; expands = expands.0 };
    is_dtd_text = subst (λ (d : PlainDtd). DtdTextMeans expansion (is_dtd d))
        (sym (ap (λ (w : PlainDtd × List (List ℕ)). w.0) are ∙ same)) means.0;
    bytes = text_bytes;
    reads_text = (refl, text_given.0.is_file);
    text_means = subst (λ (w : PlainDtd × List (List ℕ)). TextMeans text_bytes (Ok w.1)) (sym are)
        reads_text.0;
    lines = lines;
    reads_ranges = lines_given.0.is_file;
    ranges_mean = reads_lines.0;
  }

  pub nested_refused : (r : PlainResponse) (k : ℕ) → (nested_stage root files).Refuses r k →
      RespondsBy ranges_line files taken r.status
  nested_refused r k (inl (inl (inl file))) =
      file_refused ranges_line files taken (λ bytes is. is) r k file
  nested_refused r k (inl (inl (inr (g, i, j, opens, inl long, e)))) =
      by_status ranges_line files taken Limit r _ long.0.is_response refl
      (text_file root long.0.bytes (refl, long.0.is_file) long.0.beyond)
  nested_refused r k (inl (inl (inr (g, i, j, opens, inr (bytes, u, v, given, denies, f), e)))) =
      text_refused bytes r given.0.is_file denies.0
  nested_refused r k (inl (inr (both, i, j, opens, inl long, e))) =
      by_status ranges_line files taken Limit r _ long.0.is_response refl
      (ranges_file long.0.bytes long.0.is_file long.0.beyond)
  nested_refused r k (inl (inr (both, i, j, opens, inr (bytes, u, v, given, denies, f), e))) =
      ranges_refused bytes r given.0.is_file denies.0
  nested_refused r k (inr (given, i, j, opens, denies, e)) =
      nesting_refused given.0.0 given.0.1 given.1 r (annotation_reads given i opens) denies.0

  pub nested_reads : (nested : PlainDtd × PlainDoc Mark) (k : ℕ) →
      (nested_stage root files).Opens nested k →
      ReadsNested ranges_line files root nested.0 nested.1
  nested_reads nested k (given, i, j, opens, (same, stands), e) = record {
    text = given.0.1;
    ranges = given.1;
    reads = subst (λ (g : PlainDtd). ReadsAnnotation ranges_line files root g given.0.1 given.1)
        (sym same) (annotation_reads given i opens);
    nests = stands.0;
  }

  possibility_shown : (nested : PlainDtd × PlainDoc Mark) (checked r : PlainResponse) →
      ReadsNested ranges_line files root nested.0 nested.1 → r.status ≡ checked.status →
      TellsPossibility root nested.0 nested.1 checked →
      RespondsBy ranges_line files taken r.status
  possibility_shown nested checked r reads same (is_possible n can have is) =
      subst (RespondsBy ranges_line files taken)
      (sym (same ∙ ap (λ (p : PlainResponse). p.status) is)) tt
  possibility_shown nested checked r reads same (is_no_more (is_impossible path never first is)) =
      subst (RespondsBy ranges_line files taken)
      (sym (same ∙ ap (λ (p : PlainResponse). p.status) is))
      (nested_impossible root nested.0 nested.1 reads never)

  pub shown_told : (nested : PlainDtd × PlainDoc Mark) (k : ℕ) (rest : Course) (r : PlainResponse) →
      (nested_stage root files).Opens nested k → IsShownCourse root nested.0 nested.1 rest →
      rest.ending ≡ responds r →
      RespondsBy ranges_line files taken r.status
  shown_told nested k rest r opens shown ends =
      behind_by (width_stage nested.0 nested.1) (λ _. Responds (TellsNested root nested.0 nested.1))
      (λ s. RespondsBy ranges_line files taken s.status) rest r
      (λ s n wide. width_shown s wide.0)
      (λ u n more narrow told same at. told_shown
      (responds_by (TellsNested root nested.0 nested.1) more r told at)) shown ends
    where
      width_shown : (s : PlainResponse) → RefusesWidth nested.0 nested.1 s →
          RespondsBy ranges_line files taken s.status
      width_shown s (is_too_wide path first is) =
          by_status ranges_line files taken Limit s _ is refl
          (nested_width root nested.0 nested.1 path (nested_reads nested k opens) first)

      told_shown : TellsNested root nested.0 nested.1 r →
          RespondsBy ranges_line files taken r.status
      told_shown t =
          possibility_shown nested t.checked r (nested_reads nested k opens)
          (ap (λ (p : PlainResponse). p.status) t.is_response) t.tells
