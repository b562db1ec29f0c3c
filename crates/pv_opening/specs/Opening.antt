-- Opening the files of a command, in the order of work: DTD fetch, its parameter entities, DTD,
-- document fetch, document.
use Rattle.std.specs.Prelude.{◌≡◌, ◌≤◌, ◌<◌, ℕ, zero, suc, List, [], ◌∷◌, ◌++◌, length, codes}
use Rattle.std.specs.Prelude.{decimal, Option, Some, None}
use Rattle.pv_dtd.specs.Plain.{PlainDtd}
use Rattle.pv_dtd.specs.Facts.{MAX_DTD_BYTES}
use Rattle.pv_dtd.specs.Kinds.{Kind, parameter, nesting, syntax, twice, mixed_twice, limit}
use Rattle.pv_dtd.specs.Meaning.{DtdTextMeans, is_dtd, faulty}
use Rattle.pv_io.specs.Files.{file_named, HoldsMore}
use Rattle.pv_read.specs.Meaning.{MAX_DOC_BYTES}
use Rattle.pv_opening.specs.declared.status.Status.TheVariants.{BadDtd, Limit}
use Rattle.pv_opening.specs.Response.{PlainResponse, with_line}
use Rattle.pv_opening.specs.Documents.{PlainOpened, document_stage}
use Rattle.pv_opening.specs.Parameters.{expansion_stage}
use Rattle.pv_opening.specs.Stage.{Stage, followed_by, beside, without_fetch}

-- the files of a run, in the order in which they are fetched: none where there is no such file
abbrev pub Files : Type 0
Files = List (Option (List ℕ))

-- the file with this number, counted from 0
abbrev pub file_at : ℕ → Files → Option (List ℕ)
file_at n [] = None
file_at zero (file ∷ files) = file
file_at (suc n) (file ∷ files) = file_at n files

-- the file of this name, where the shelf tells its files
abbrev pub IsFile : Option (List (List ℕ × List ℕ)) → List ℕ → Option (List ℕ) → Type 0
IsFile None name file = Unit {0}
IsFile (Some files) name file = file ≡ file_named name files

-- a file for each of these names, in order
abbrev pub AreFiles : Option (List (List ℕ × List ℕ)) → List (List ℕ) → Files → Type 0
AreFiles told [] [] = Unit {0}
AreFiles told (name ∷ names) (file ∷ files) = IsFile told name file × AreFiles told names files
AreFiles told _ _ = ⊥

-- the file holds these bytes, and no more than so many
pub record IsFetched (file : Option (List ℕ)) (most : ℕ) (bytes : List ℕ) : Type 0 where
  pub is_file : file ≡ Some bytes
  pub within : length bytes ≤ most

-- the response where the file holds more
pub record IsFileTooLong (file : Option (List ℕ)) (most : ℕ) (passed : List ℕ) (r : PlainResponse) :
    Type 0 where
  pub bytes : List ℕ
  pub is_file : file ≡ Some bytes
  pub beyond : most < length bytes
  pub is_response : r ≡ with_line Limit passed

-- Fetching a file of at most so many bytes, which is one fetch, however it ends; the line says
-- `passed` where it has more, and then it is no fault of the shelf.
abbrev pub fetch_stage : Option (List ℕ) → ℕ → List ℕ → Stage (List ℕ)
fetch_stage file most passed = record {
  Opens = λ bytes n. IsFetched file most bytes × (n ≡ 1);
  Refuses = λ r n. IsFileTooLong file most passed r × (n ≡ 1);
  Faults = λ n. (HoldsMore file most → ⊥) × (n ≡ 1);
  Lacks = λ n. n ≡ 1;
}

-- fetching one more file, and reading it
abbrev pub file_stage : {X : Type 0} → Option (List ℕ) → ℕ → List ℕ → (List ℕ → Stage X) → Stage X
file_stage file most passed reading = followed_by (fetch_stage file most passed) reading

-- the response to a DTD whose first fault is of this kind, after so many whole items
abbrev pub dtd_refusal : Kind → ℕ → PlainResponse
dtd_refusal parameter k = with_line BadDtd (codes "dtd parameter " ++ decimal k)
dtd_refusal nesting k = with_line Limit (codes "limit dtd " ++ decimal k)
dtd_refusal syntax k = with_line BadDtd (codes "dtd syntax " ++ decimal k)
dtd_refusal twice k = with_line BadDtd (codes "dtd twice " ++ decimal k)
dtd_refusal mixed_twice k = with_line BadDtd (codes "dtd mixed-twice " ++ decimal k)
dtd_refusal limit k = with_line Limit (codes "limit dtd " ++ decimal k)

-- the response to bytes that are no DTD
pub data RefusesDtd (bytes : List ℕ) (r : PlainResponse) : Type 0 where
  no_dtd : (kind : Kind) (k : ℕ) → DtdTextMeans bytes (faulty kind k) → r ≡ dtd_refusal kind k →
      RefusesDtd bytes r

-- reading a DTD
abbrev pub dtd_stage : List ℕ → Stage PlainDtd
dtd_stage bytes = without_fetch (λ g. DtdTextMeans bytes (is_dtd g)) (RefusesDtd bytes)

-- reading the DTD of a file's bytes, once their parameter entities are put in place
abbrev pub expanded_dtd_stage : List ℕ → Stage PlainDtd
expanded_dtd_stage bytes = followed_by (expansion_stage bytes) dtd_stage

-- fetching the file of a DTD, and reading it
abbrev pub dtd_file_stage : Option (List ℕ) → Stage PlainDtd
dtd_file_stage file = file_stage file MAX_DTD_BYTES (codes "limit dtd-file") expanded_dtd_stage

-- fetching the bytes of a document
abbrev pub document_fetch_stage : Option (List ℕ) → Stage (List ℕ)
document_fetch_stage file = fetch_stage file MAX_DOC_BYTES (codes "limit document-file")

-- opening a DTD, and then fetching a document
abbrev pub fetching_stage : Files → Stage (PlainDtd × List ℕ)
fetching_stage files =
    followed_by (dtd_file_stage (file_at 0 files))
    (λ g. beside g (document_fetch_stage (file_at 1 files)))

-- and then reading the document
abbrev pub opening_stage : List ℕ → Files → Stage PlainOpened
opening_stage root files =
    followed_by (fetching_stage files) (λ both. document_stage root both.0 both.1)
