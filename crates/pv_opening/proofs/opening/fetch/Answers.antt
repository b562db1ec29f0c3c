use Rattle.std.proofs.Common.{◌≡◌, refl}
use Rattle.pv_opening.specs.Response.{with_line}
use Rattle.pv_opening.specs.declared.status.Status.TheVariants.{Limit}
use Rattle.pv_opening.proofs.FetchedFiles.{fetch_file, file_given, not_beyond, refusal_counts, stops_beyond}
use Rattle.pv_opening.proofs.opening.fetch.Goals as goal

pub returns-in-Ok-clause-over : goal.returns-in-Ok-clause-over
returns-in-Ok-clause-over g c =
    let file = fetch_file _ c.args.name.now c.args.most _ c.in-Ok.ensures.bound c.in-Ok.ensures.bytes in
    record {
      files = file.0;
      are_such = file.1;
      fetches = 1;
      returns = (file_given file.0 c.args.most _ file.2, refl);
      calls = c.fetch.ensures.calls;
      faults = c.in-Ok.ensures.cause;
      same = c.fetch.ensures.files;
    }

pub returns-in-Err-TooLong-clause-over : goal.returns-in-Err-TooLong-clause-over
returns-in-Err-TooLong-clause-over g c =
    let file = fetch_file _ c.args.name.now c.args.most _ tt (rw c.in-Err-TooLong.field-0-is at c.in-Err-TooLong.ensures.bytes) in
    record {
      files = file.0;
      are_such = file.1;
      fetches = 1;
      returns = stops_beyond file.0 c.args.most _ c.refuse.result file.2 c.refuse.ensures;
      calls = c.fetch.ensures.calls;
      faults = refusal_counts (λ r. r ≡ with_line Limit c.args.passed.now) _ _ c.refuse.result c.refuse.ensures (rw c.in-Err-TooLong.field-0-is at c.in-Err-TooLong.ensures.cause);
      same = c.fetch.ensures.files;
    }

pub returns-in-Err-Failed-clause-over : goal.returns-in-Err-Failed-clause-over
returns-in-Err-Failed-clause-over g c =
    let file = fetch_file _ c.args.name.now c.args.most _ tt (rw c.in-Err-Failed.field-0-is at c.in-Err-Failed.ensures.bytes) in
    record {
      files = file.0;
      are_such = file.1;
      fetches = 1;
      returns = (not_beyond file.0 c.args.most file.2, refl);
      calls = c.fetch.ensures.calls;
      faults = rw c.in-Err-Failed.field-0-is at c.in-Err-Failed.ensures.cause;
      same = c.fetch.ensures.files;
    }

pub returns-in-Err-NoMemory-clause-over : goal.returns-in-Err-NoMemory-clause-over
returns-in-Err-NoMemory-clause-over g c =
    let file = fetch_file _ c.args.name.now c.args.most _ c.in-Err-NoMemory.ensures.bound c.in-Err-NoMemory.ensures.bytes in
    record {
      files = file.0;
      are_such = file.1;
      fetches = 1;
      returns = refl;
      calls = c.fetch.ensures.calls;
      faults = rw c.in-Err-NoMemory.field-0-is at c.in-Err-NoMemory.ensures.cause;
      same = c.fetch.ensures.files;
    }
