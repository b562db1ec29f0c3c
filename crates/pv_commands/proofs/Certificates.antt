-- What a command on a certificate did, as a course that is defined for it.
use Rattle.std.proofs.Common.{ℕ, ◌+◌, List, [], ◌∷◌, Option, Result, Ok, Err, refl, subst, ◌∙◌}
use Rattle.std.proofs.Common.{arith}
use Rattle.pv_opening.specs.declared.opening.Opened.{Opened}
use Rattle.pv_opening.specs.declared.response.Response.{Response}
use Rattle.pv_opening.specs.declared.stop.Stop.{Stop}
use Rattle.pv_commands.specs.Certificates.{certificate_stage}
use Rattle.pv_commands.specs.Returns.{CountsNone, FindsOver}
use Rattle.pv_opening.specs.Course.{Course, without_input}
use Rattle.pv_opening.specs.Devices.{ShelfNow}
use Rattle.pv_opening.specs.Documents.{PlainOpened}
use Rattle.pv_opening.specs.Opening.{AreFiles, Files, IsFile, file_at, opening_stage}
use Rattle.pv_opening.specs.ShownCourses.{CountsShelf}
use Rattle.pv_opening.specs.Response.{PlainResponse}
use Rattle.pv_opening.specs.Returns.{ReturnsOver, StopCounts, TellsBy, ending_of, plain_opened}
use Rattle.pv_opening.specs.Stage.{Behind, Responds, Stage, beside, opened}
use Rattle.pv_opening.proofs.Stages.{finds_goes, finds_stays, some_file, stays_from, stop_counts}
use Rattle.pv_opening.proofs.Stages.{stop_ends, stopped_beside, stopped_first, stopped_second}
use Rattle.pv_opening.proofs.Stages.{tells_found}

-- the files of two names
two_files : (told : Option (List (List ℕ × List ℕ))) (dtd doc : List ℕ) (files : Files) →
    AreFiles told (dtd ∷ doc ∷ []) files →
    IsFile told dtd (file_at 0 files) × IsFile told doc (file_at 1 files)
two_files told dtd doc [] are = absurd are
two_files told dtd doc (a ∷ []) are = absurd are.1
two_files told dtd doc (a ∷ b ∷ []) are = (are.0, are.1.0)
two_files told dtd doc (a ∷ b ∷ c ∷ rest) are = absurd are.1.1

-- and one more file after them
abbrev with_third : Files → Option (List ℕ) → Files
with_third files third = file_at 0 files ∷ file_at 1 files ∷ third ∷ []

three_files : (told : Option (List (List ℕ × List ℕ))) (dtd doc name : List ℕ) (files : Files)
    (third : Option (List ℕ)) → AreFiles told (dtd ∷ doc ∷ []) files → IsFile told name third →
    AreFiles told (dtd ∷ doc ∷ name ∷ []) (with_third files third)
three_files told dtd doc name files third are is =
    let two = two_files told dtd doc files are in
    (two.0, (two.1, (is, tt)))

-- A command whose certificate is read so, and which tells this of it.
module _ {X Z : Type 0} (Takes : Files → Course → Type 0) (dtd root doc name : List ℕ)
    (plain : X → Z) (reading : Option (List ℕ) → Stage Z)
    (Told : PlainOpened × Z → PlainResponse → Type 0)
    (is : (files : Files) (course : Course) →
    Behind (certificate_stage reading root files) (λ both. Responds (Told both)) course →
    Takes files course)
    (before : ShelfNow) (checked : ℕ) where
  abbrev Finds : ShelfNow → Result Response Stop → Type 0
  Finds after result =
      FindsOver (dtd ∷ doc ∷ name ∷ []) Takes CountsNone before after checked checked result

  -- the files stopped it
  pub opening_stopped : (after : ShelfNow) (stop : Stop) →
      ReturnsOver {X = Opened} (AreFiles before.files (dtd ∷ doc ∷ [])) plain_opened
      (opening_stage root) before after (Err stop) → Finds after (Err stop)
  opening_stopped after stop over =
      let third = some_file before.files name in
      let files = with_third over.files third.0 in
      record {
        files = files;
        are_files = three_files before.files dtd doc name over.files third.0 over.are_such third.1;
        fetches = over.fetches;
        takes = is files _
            (stop_ends (certificate_stage reading root files) (λ both. Responds (Told both))
            over.fetches stop
            (stopped_first (opening_stage root files) (λ o. beside o (reading third.0)) over.fetches
            stop over.returns));
        shelf = record {
          calls = over.calls;
          faults = stop_counts before.faults after.faults stop over.faults;
        };
        checks = refl;
      }

  module _ (between after : ShelfNow) (o : Opened)
      (first : ReturnsOver (AreFiles before.files (dtd ∷ doc ∷ [])) plain_opened
      (opening_stage root) before between (Ok o)) where
    same_shelf : (third : Option (List ℕ)) → IsFile between.files name third →
        IsFile before.files name third
    same_shelf third told = subst (λ t. IsFile t name third) first.same told

    -- the certificate stopped it
    pub certificate_stopped : (stop : Stop) →
        ReturnsOver {X = X} (IsFile between.files name) plain reading between after (Err stop) →
        Finds after (Err stop)
    certificate_stopped stop second =
        let files = with_third first.files second.files in
        record {
          files = files;
          are_files = three_files before.files dtd doc name first.files second.files first.are_such
              (same_shelf second.files second.are_such);
          fetches = first.fetches + second.fetches;
          takes = is files _
              (stop_ends (certificate_stage reading root files) (λ both. Responds (Told both))
              (first.fetches + second.fetches) stop
              (stopped_second (opening_stage root files) (λ o. beside o (reading second.files))
              (plain_opened o) first.fetches second.fetches stop first.returns
              (stopped_beside (plain_opened o) (reading second.files) second.fetches stop
              second.returns)));
          shelf = record {
            calls = let one = first.calls in let more = second.calls in omega arith;
            faults = stop_counts before.faults after.faults stop
                (subst (λ (n : ℕ). StopCounts n after.faults stop) first.faults second.faults);
          };
          checks = refl;
        }

    -- it told this of the certificate
    pub certificate_told : (x : X) (result : Result Response Stop) →
        ReturnsOver (IsFile between.files name) plain reading between after (Ok x) →
        TellsBy (Told (plain_opened o, plain x)) result → Finds after result
    certificate_told x result second tells =
        let files = with_third first.files second.files in
        let both : PlainOpened × Z = (plain_opened o, plain x) in
        let finds = tells_found (Told both) result tells in
        let goes = finds_goes (Responds (Told both)) result finds in
        let stays = finds_stays (Responds (Told both)) result finds in
        record {
          files = files;
          are_files = three_files before.files dtd doc name first.files second.files first.are_such
              (same_shelf second.files second.are_such);
          fetches = (first.fetches + second.fetches) + 0;
          takes = is files _
              (opened both (first.fetches + second.fetches) (without_input 0 (ending_of result)) (
                plain_opened o,
                first.fetches,
                second.fetches,
                first.returns,
                (refl, second.returns),
                refl,
              ) goes refl);
          shelf = record {
            calls = let one = first.calls in let more = second.calls in omega arith;
            faults = stays_from (CountsShelf (ending_of result)) before.faults after.faults
                (second.faults ∙ first.faults) stays;
          };
          checks = refl;
        }
