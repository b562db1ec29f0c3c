-- What `dtd` did, where it stopped at its file, and after it.
use Rattle.std.proofs.Common.{ℕ, ◌+◌, List, [], ◌∷◌, Result, Ok, Err, refl, arith}
use Rattle.pv_dtd.specs.PlainForms.{plain_dtd}
use Rattle.pv_dtd.specs.declared.dtd.Dtd.{Dtd}
use Rattle.pv_commands.specs.Dtd.{IsDtdCourse, TellsDtd}
use Rattle.pv_commands.specs.Returns.{CountsNone, FindsOver}
use Rattle.pv_opening.specs.Course.{without_input}
use Rattle.pv_opening.specs.Devices.{ShelfNow}
use Rattle.pv_opening.specs.Opening.{IsFile, dtd_file_stage}
use Rattle.pv_opening.specs.Returns.{ReturnsOver, TellsBy, ending_of}
use Rattle.pv_opening.specs.ShownCourses.{CountsShelf}
use Rattle.pv_opening.specs.Stage.{Responds, opened}
use Rattle.pv_opening.specs.declared.response.Response.{Response}
use Rattle.pv_opening.specs.declared.stop.Stop.{Stop}
use Rattle.pv_opening.proofs.Stages.{finds_goes, finds_stays, stays_from, stop_counts, stop_ends}
use Rattle.pv_opening.proofs.Stages.{tells_found}

pub dtd_stopped : (name : List ℕ) (before after : ShelfNow) (checked : ℕ) (stop : Stop) →
    ReturnsOver {X = Dtd} (IsFile before.files name) plain_dtd dtd_file_stage before after
    (Err stop) →
    FindsOver (name ∷ []) IsDtdCourse CountsNone before after checked checked (Err stop)
dtd_stopped name before after checked stop over = record {
  files = over.files ∷ [];
  are_files = (over.are_such, tt);
  fetches = over.fetches;
  takes = stop_ends (dtd_file_stage over.files) (λ g. Responds (TellsDtd g)) over.fetches stop
      over.returns;
  shelf = record {
    calls = over.calls;
    faults = stop_counts before.faults after.faults stop over.faults;
  };
  checks = refl;
}

pub dtd_told : (name : List ℕ) (before after : ShelfNow) (checked : ℕ) (dtd : Dtd)
    (result : Result Response Stop) →
    ReturnsOver (IsFile before.files name) plain_dtd dtd_file_stage before after (Ok dtd) →
    TellsBy (TellsDtd (plain_dtd dtd)) result →
    FindsOver (name ∷ []) IsDtdCourse CountsNone before after checked checked result
dtd_told name before after checked dtd result over tells =
    let finds = tells_found (TellsDtd (plain_dtd dtd)) result tells in
    let goes = finds_goes (Responds (TellsDtd (plain_dtd dtd))) result finds in
    let stays = finds_stays (Responds (TellsDtd (plain_dtd dtd))) result finds in
    record {
      files = over.files ∷ [];
      are_files = (over.are_such, tt);
      fetches = over.fetches + 0;
      takes = opened (plain_dtd dtd) over.fetches (without_input 0 (ending_of result)) over.returns
          goes refl;
      shelf = record {
        calls = omega (arith, over.calls);
        faults = stays_from (CountsShelf (ending_of result)) before.faults after.faults over.faults
            stays;
      };
      checks = refl;
    }
