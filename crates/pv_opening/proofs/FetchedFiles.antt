-- What a fetch tells of the file, also where the shelf doesn't tell its files; and one fetch after another.
use Rattle.std.proofs.Common.{◌≡◌, ℕ, ◌+◌, ◌≤◌, List, [], ◌∷◌, length, replicate, Option, Some, None, Result, Ok, Err, Vec, Global, vec_len, IfOk, sym, ap, ◌∙◌, subst, refl, arith}
use Rattle.std.proofs.lemmas.Grind.{common_steps}
use Rattle.pv_dtd.specs.PlainForms.{plain_dtd}
use Rattle.pv_dtd.specs.declared.dtd.Dtd.{Dtd}
use Rattle.pv_io.specs.declared.shelf.FetchError.{FetchError}
use Rattle.pv_io.specs.declared.shelf.FetchError.TheVariants.{Failed, TooLong, NoMemory}
use Rattle.pv_io.specs.Causes.{CountStays}
use Rattle.pv_io.specs.Files.{FetchTells, FetchGives, HoldsMore, file_named}
use Rattle.pv_opening.specs.declared.opening.Fetched.{Fetched}
use Rattle.pv_opening.specs.declared.status.Status.TheVariants.{Limit}
use Rattle.pv_opening.specs.Devices.{ShelfNow}
use Rattle.pv_opening.specs.Opening.{AreFiles, IsFile, IsFetched, IsFileTooLong, document_fetch_stage, dtd_file_stage, fetch_stage, fetching_stage}
use Rattle.pv_opening.specs.Response.{PlainResponse, with_line, plain_response}
use Rattle.pv_opening.specs.Returns.{RefusesWith, Returns, ReturnsOver, ShelfCounts, StopCounts, StopsBy, plain_fetched}
use Rattle.pv_opening.specs.Stage.{Stage, beside, followed_by}
use Rattle.pv_opening.specs.declared.stop.Stop.{Stop}
use Rattle.pv_opening.specs.declared.stop.Stop.TheVariants.{Refused, ShelfFault, NoMemory as OutOfMemory}
use Rattle.pv_opening.proofs.Stages.{returned_second, some_file, stopped_beside, stopped_first, stopped_second}

pub fetch_file : (told : Option (List (List ℕ × List ℕ))) (name : List ℕ) (most : ℕ)
    (result : Result (Vec ℕ Global) FetchError) → IfOk result (λ v. vec_len v ≤ most) →
    FetchTells told name most result → (file : Option (List ℕ)) × IsFile told name file
    × FetchGives file most result
fetch_file None name most (Ok v) bound tells = (Some v.items, tt, (refl, omega (arith, v.ok.0, bound)))
fetch_file None name most (Err Failed) bound tells = (None, tt, tt)
fetch_file None name most (Err TooLong) bound tells = (Some (replicate (most + 1) 0), tt, grind (arith, common_steps))
fetch_file None name most (Err NoMemory) bound tells = (None, tt, tt)
fetch_file (Some files) name most result bound tells = (file_named name files, refl, tells)

pub file_given : (file : Option (List ℕ)) (most : ℕ) (v : Vec ℕ Global) → FetchGives file most (Ok v) → IsFetched file most v.items
file_given None most v gives = absurd gives
file_given (Some bytes) most v gives = record { is_file = ap Some (sym gives.0); within = omega (arith, ap length gives.0, gives.1) }

file_beyond : (file : Option (List ℕ)) (most : ℕ) (passed : List ℕ) (r : PlainResponse) → FetchGives file most (Err TooLong) → r ≡ with_line Limit passed → IsFileTooLong file most passed r
file_beyond None most passed r gives is = absurd gives
file_beyond (Some bytes) most passed r gives is = record { bytes = bytes; is_file = refl; beyond = gives; is_response = is }

pub stops_beyond : (file : Option (List ℕ)) (most : ℕ) (passed : List ℕ) (stop : Stop) → FetchGives file most (Err TooLong) →
    RefusesWith (λ r. r ≡ with_line Limit passed) stop → StopsBy (fetch_stage file most passed) 1 stop
stops_beyond file most passed (Refused r) gives stops = (file_beyond file most passed (plain_response r) gives stops, refl)
stops_beyond file most passed ShelfFault gives stops = absurd stops
stops_beyond file most passed OutOfMemory gives stops = refl

pub not_beyond : (file : Option (List ℕ)) (most : ℕ) → FetchGives file most (Err Failed) → HoldsMore file most → ⊥
not_beyond None most gives holds = holds
not_beyond (Some bytes) most gives holds = omega (arith, gives, holds)

-- the DTD stopped the fetching of both files
pub first_stopped : (dtd doc : List ℕ) (before after : ShelfNow) (stop : Stop) → ReturnsOver {X = Dtd} (IsFile before.files dtd) plain_dtd dtd_file_stage before after (Err stop) →
    ReturnsOver {X = Fetched} (AreFiles before.files (dtd ∷ doc ∷ [])) plain_fetched fetching_stage before after (Err stop)
first_stopped dtd doc before after stop over =
    let other = some_file before.files doc in
    record {
      files = over.files ∷ other.0 ∷ [];
      are_such = (over.are_such, (other.1, tt));
      fetches = over.fetches;
      returns = stopped_first (dtd_file_stage over.files) (λ g. beside g (document_fetch_stage other.0)) over.fetches stop over.returns;
      calls = over.calls;
      faults = over.faults;
      same = over.same;
    }

-- after the DTD the fetch of the document stopped it, or went well
pub second_stopped : (dtd doc : List ℕ) (before between after : ShelfNow) (d : Dtd) (stop : Stop) → ReturnsOver (IsFile before.files dtd) plain_dtd dtd_file_stage before between (Ok d) →
    ReturnsOver {X = Vec ℕ Global} (IsFile between.files doc) (λ v. v.items) document_fetch_stage between after (Err stop) →
    ReturnsOver {X = Fetched} (AreFiles before.files (dtd ∷ doc ∷ [])) plain_fetched fetching_stage before after (Err stop)
second_stopped dtd doc before between after d stop first second =
    let told = subst (λ t. IsFile t doc second.files) first.same second.are_such in
    let stops = stopped_beside (plain_dtd d) (document_fetch_stage second.files) second.fetches stop second.returns in
    record {
      files = first.files ∷ second.files ∷ [];
      are_such = (first.are_such, (told, tt));
      fetches = first.fetches + second.fetches;
      returns = stopped_second (dtd_file_stage first.files) (λ g. beside g (document_fetch_stage second.files)) (plain_dtd d) first.fetches second.fetches stop first.returns stops;
      calls = let one = first.calls in let more = second.calls in omega arith;
      faults = subst (λ (n : ℕ). StopCounts n after.faults stop) first.faults second.faults;
      same = second.same ∙ first.same;
    }

pub both_fetched : (dtd doc : List ℕ) (before between after : ShelfNow) (f : Fetched) → ReturnsOver (IsFile before.files dtd) plain_dtd dtd_file_stage before between (Ok f.dtd) →
    ReturnsOver (IsFile between.files doc) (λ v. v.items) document_fetch_stage between after (Ok f.bytes) →
    ReturnsOver (AreFiles before.files (dtd ∷ doc ∷ [])) plain_fetched fetching_stage before after (Ok f)
both_fetched dtd doc before between after f first second =
    let told = subst (λ t. IsFile t doc second.files) first.same second.are_such in
    record {
      files = first.files ∷ second.files ∷ [];
      are_such = (first.are_such, (told, tt));
      fetches = first.fetches + second.fetches;
      returns = (plain_dtd f.dtd, first.fetches, second.fetches, first.returns, (refl, second.returns), refl);
      calls = let one = first.calls in let more = second.calls in omega arith;
      faults = second.faults ∙ first.faults;
      same = second.same ∙ first.same;
    }

-- a stage over files, and one after it that fetches nothing
pub stopped_over : {F V W X Y : Type 0} (AreSuch : F → Type 0) (shown : V → W) (first : F → Stage W) (plain : X → Y) (second : W → Stage Y) (before after : ShelfNow) (stop : Stop) →
    ReturnsOver {X = V} AreSuch shown first before after (Err stop) → ReturnsOver {X = X} AreSuch plain (λ files. followed_by (first files) second) before after (Err stop)
stopped_over AreSuch shown first plain second before after stop over = record {
  files = over.files;
  are_such = over.are_such;
  fetches = over.fetches;
  returns = stopped_first (first over.files) second over.fetches stop over.returns;
  calls = over.calls;
  faults = over.faults;
  same = over.same;
}

pub behind_over : {F V W X Y : Type 0} (AreSuch : F → Type 0) (shown : V → W) (first : F → Stage W) (plain : X → Y) (second : W → Stage Y) (before after : ShelfNow) (v : V) (result : Result X Stop) →
    ReturnsOver AreSuch shown first before after (Ok v) → Returns plain (second (shown v)) 0 result → ShelfCounts before.faults before.faults result →
    ReturnsOver AreSuch plain (λ files. followed_by (first files) second) before after result
behind_over AreSuch shown first plain second before after v result over returns counts = record {
  files = over.files;
  are_such = over.are_such;
  fetches = over.fetches + 0;
  returns = returned_second plain (first over.files) second (shown v) over.fetches 0 result over.returns returns;
  calls = let one = over.calls in omega arith;
  faults = subst (λ (n : ℕ). ShelfCounts before.faults n result) (sym over.faults) counts;
  same = over.same;
}

-- a stage that fetches nothing leaves the shelf's count
pub reading_counts : {X Y : Type 0} (plain : X → Y) (stage : Stage Y) (n count : ℕ) (result : Result X Stop) → (stage.Faults n → ⊥) → Returns plain stage n result → ShelfCounts count count result
reading_counts plain stage n count (Ok x) never returns = refl
reading_counts plain stage n count (Err (Refused r)) never returns = refl
reading_counts plain stage n count (Err ShelfFault) never returns = absurd (never returns)
reading_counts plain stage n count (Err OutOfMemory) never returns = refl

-- a refusal leaves it too
pub refusal_counts : (P : PlainResponse → Type 0) (before after : ℕ) (stop : Stop) → RefusesWith P stop → CountStays before after → StopCounts before after stop
refusal_counts P before after (Refused r) told stays = stays
refusal_counts P before after ShelfFault told stays = absurd told
refusal_counts P before after OutOfMemory told stays = stays
