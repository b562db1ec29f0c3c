use Rattle.std.proofs.Common.{◌≡◌, codes, refl}
use Rattle.pv_opening.specs.Response.{with_line}
use Rattle.pv_opening.specs.declared.status.Status.TheVariants.{Limit}
use Rattle.pv_opening.proofs.FetchedFiles.{fetch_file, file_given, not_beyond, refusal_counts, stops_beyond}
use Rattle.pv_read.specs.Meaning.{MAX_DOC_BYTES}
use Rattle.pv_many.proofs.documents.fetch_document.Goals as goal

pub returns-in-Ok : goal.returns-in-Ok
returns-in-Ok g c =
    let file = fetch_file _ c.args.name.now MAX_DOC_BYTES _ c.in-Ok.ensures.bound c.in-Ok.ensures.bytes in
    record {
      files = file.0;
      are_such = file.1;
      fetches = 1;
      returns = (file_given file.0 MAX_DOC_BYTES _ file.2, refl);
      calls = c.fetch.ensures.calls;
      faults = c.in-Ok.ensures.cause;
      same = c.fetch.ensures.files;
    }

pub returns-in-Err-TooLong : goal.returns-in-Err-TooLong
returns-in-Err-TooLong g c =
    let file = fetch_file _ c.args.name.now MAX_DOC_BYTES _ tt (rw c.in-Err-TooLong.field-0-is at c.in-Err-TooLong.ensures.bytes) in
    record {
      files = file.0;
      are_such = file.1;
      fetches = 1;
      returns = stops_beyond file.0 MAX_DOC_BYTES (codes "limit document-file") c.refuse.result file.2 c.refuse.ensures;
      calls = c.fetch.ensures.calls;
      faults = refusal_counts (λ r. r ≡ with_line Limit (codes "limit document-file")) _ _
          c.refuse.result c.refuse.ensures (rw c.in-Err-TooLong.field-0-is at c.in-Err-TooLong.ensures.cause);
      same = c.fetch.ensures.files;
    }

pub returns-in-Err-Failed : goal.returns-in-Err-Failed
returns-in-Err-Failed g c =
    let file = fetch_file _ c.args.name.now MAX_DOC_BYTES _ tt (rw c.in-Err-Failed.field-0-is at c.in-Err-Failed.ensures.bytes) in
    record {
      files = file.0;
      are_such = file.1;
      fetches = 1;
      returns = (not_beyond file.0 MAX_DOC_BYTES file.2, refl);
      calls = c.fetch.ensures.calls;
      faults = rw c.in-Err-Failed.field-0-is at c.in-Err-Failed.ensures.cause;
      same = c.fetch.ensures.files;
    }

pub returns-in-Err-NoMemory : goal.returns-in-Err-NoMemory
returns-in-Err-NoMemory g c =
    let file = fetch_file _ c.args.name.now MAX_DOC_BYTES _ c.in-Err-NoMemory.ensures.bound c.in-Err-NoMemory.ensures.bytes in
    record {
      files = file.0;
      are_such = file.1;
      fetches = 1;
      returns = refl;
      calls = c.fetch.ensures.calls;
      faults = rw c.in-Err-NoMemory.field-0-is at c.in-Err-NoMemory.ensures.cause;
      same = c.fetch.ensures.files;
    }
