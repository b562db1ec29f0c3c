-- Stages, one after another, with the files that they fetch, up to where a run stops.
use Rattle.std.proofs.Common.{◌≡◌, inl, inr, ℕ, ◌+◌, List, Option, Some, None, Result, Ok, Err, ap, refl, sym, subst, arith}
use Rattle.pv_io.specs.Causes.{CountStays}
use Rattle.pv_io.specs.Files.{file_named}
use Rattle.pv_opening.specs.declared.response.Response.{Response}
use Rattle.pv_opening.specs.declared.stop.Stop.{Stop}
use Rattle.pv_opening.specs.declared.stop.Stop.TheVariants.{Refused, ShelfFault, NoMemory}
use Rattle.pv_opening.specs.Course.{Course, after_fetches, without_input}
use Rattle.pv_opening.specs.Opening.{IsFile}
use Rattle.pv_opening.specs.ShownCourses.{CountsShelf}
use Rattle.pv_opening.specs.Response.{PlainResponse, plain_response}
use Rattle.pv_opening.specs.Returns.{TakesCourse, RefusesWith, Returns, StopCounts, StopsBy, TellsBy, ending_of}
use Rattle.pv_opening.specs.Stage.{Stage, without_fetch, followed_by, beside, Behind, opened, refused, stopped, short_of_memory, Responds, responded, short_of_memory as out_of_memory}

-- the file of a name that isn't asked for
pub some_file : (told : Option (List (List ℕ × List ℕ))) (name : List ℕ) → (file : Option (List ℕ)) × IsFile told name file
some_file None name = (None, tt)
some_file (Some files) name = (file_named name files, refl)

-- a stop with one kind of response is one with another
pub stops_as : (P Q : PlainResponse → Type 0) (stop : Stop) → ((r : PlainResponse) → P r → Q r) → RefusesWith P stop → RefusesWith Q stop
stops_as P Q (Refused r) f s = f _ s
stops_as P Q ShelfFault f s = s
stops_as P Q NoMemory f s = s

-- such a stop is one of a stage that fetches nothing
pub refusal_stops : {X : Type 0} (IsOpened : X → Type 0) (IsRefused : PlainResponse → Type 0) (stop : Stop) → RefusesWith IsRefused stop → StopsBy (without_fetch IsOpened IsRefused) 0 stop
refusal_stops IsOpened IsRefused (Refused r) stops = (stops, refl)
refusal_stops IsOpened IsRefused ShelfFault stops = stops
refusal_stops IsOpened IsRefused NoMemory stops = refl

-- a stop with a kind of response that such a stage refuses with
pub refused_as : {X : Type 0} (IsOpened : X → Type 0) (P IsRefused : PlainResponse → Type 0)
    (stop : Stop) → ((r : PlainResponse) → P r → IsRefused r) → RefusesWith P stop →
    StopsBy (without_fetch IsOpened IsRefused) 0 stop
refused_as IsOpened P IsRefused stop refuses told =
    refusal_stops IsOpened IsRefused stop (stops_as P IsRefused stop refuses told)

-- where the first of two stages stops, both do
pub stopped_first : {X Y : Type 0} (first : Stage X) (second : X → Stage Y) (n : ℕ) (stop : Stop) → StopsBy first n stop → StopsBy (followed_by first second) n stop
stopped_first first second n (Refused r) stops = inl stops
stopped_first first second n ShelfFault stops = inl stops
stopped_first first second n NoMemory stops = inl stops

-- and so they do where the second stops, after the fetches of both
pub stopped_second : {X Y : Type 0} (first : Stage X) (second : X → Stage Y) (x : X) (k m : ℕ)
    (stop : Stop) → first.Opens x k → StopsBy (second x) m stop → StopsBy (followed_by first second)
    (k + m) stop
stopped_second first second x k m (Refused r) opens stops = inr (x, k, m, opens, stops, refl)
stopped_second first second x k m ShelfFault opens stops = inr (x, k, m, opens, stops, refl)
stopped_second first second x k m NoMemory opens stops = inr (x, k, m, opens, stops, refl)

-- and what the second returns is what both do
pub returned_second : {X Y Z : Type 0} (plain : Z → Y) (first : Stage X) (second : X →
    Stage Y) (x : X) (k m : ℕ) (r : Result Z Stop) → first.Opens x k →
    Returns plain (second x) m r → Returns plain (followed_by first second) (k + m) r
returned_second plain first second x k m (Ok z) opens is = (x, k, m, opens, is, refl)
returned_second plain first second x k m (Err stop) opens is = stopped_second first second x k m stop opens is

-- a stage that hands on more stops as it does alone
pub stopped_beside : {X Y : Type 0} (x : X) (stage : Stage Y) (n : ℕ) (stop : Stop) → StopsBy stage n stop → StopsBy (beside x stage) n stop
stopped_beside x stage n (Refused r) stops = stops
stopped_beside x stage n ShelfFault stops = stops
stopped_beside x stage n NoMemory stops = stops

-- a run ends where a stage stops
pub stop_ends : {X : Type 0} (stage : Stage X) (Goes : X → Course → Type 0) (n : ℕ) (stop : Stop) → StopsBy stage n stop → Behind stage Goes (without_input n (ending_of (Err stop)))
stop_ends stage Goes n (Refused r) stops = refused (plain_response r) n stops refl
stop_ends stage Goes n ShelfFault stops = stopped n stops refl
stop_ends stage Goes n NoMemory stops = short_of_memory n stops refl

after_both : (k m : ℕ) (rest : Course) → after_fetches k (after_fetches m rest) ≡ after_fetches (k + m) rest
after_both k m rest =
    let count : k + (m + rest.fetches) ≡ (k + m) + rest.fetches = omega arith in
    ap (λ (n : ℕ). record { fetches = n; taken = rest.taken; at_end = rest.at_end; silent = rest.silent; ending = rest.ending }) count

-- a run over the second of two stages is one over both
pub behind_second : {X Y : Type 0} (first : Stage X) (second : X → Stage Y) (Goes : Y → Course → Type 0) (x : X) (k : ℕ) (rest : Course) → first.Opens x k →
    Behind (second x) Goes rest → Behind (followed_by first second) Goes (after_fetches k rest)
behind_second first second Goes x k rest opens (opened y m more other goes is) =
    opened y (k + m) more (x, k, m, opens, other, refl) goes (let both = ap (after_fetches k) is in let same = after_both k m more in cc)
behind_second first second Goes x k rest opens (refused r m refuses is) = refused r (k + m) (inr (x, k, m, opens, refuses, refl)) (ap (after_fetches k) is)
behind_second first second Goes x k rest opens (stopped m faults is) = stopped (k + m) (inr (x, k, m, opens, faults, refl)) (ap (after_fetches k) is)
behind_second first second Goes x k rest opens (short_of_memory m lacks is) = short_of_memory (k + m) (inr (x, k, m, opens, lacks, refl)) (ap (after_fetches k) is)

-- what was found is the course that it ends in, and asks no shelf
pub finds_goes : (Goes : Course → Type 0) (result : Result Response Stop) → TakesCourse Goes result → Goes (without_input 0 (ending_of result))
finds_goes Goes (Ok r) finds = finds
finds_goes Goes (Err (Refused r)) finds = finds
finds_goes Goes (Err ShelfFault) finds = absurd finds
finds_goes Goes (Err NoMemory) finds = finds

pub finds_stays : (Goes : Course → Type 0) (result : Result Response Stop) → TakesCourse Goes result → (count : ℕ) → CountsShelf (ending_of result) count count
finds_stays Goes (Ok r) finds count = refl
finds_stays Goes (Err (Refused r)) finds count = refl
finds_stays Goes (Err ShelfFault) finds count = absurd finds
finds_stays Goes (Err NoMemory) finds count = refl

-- what the end of the order of work told was found
pub tells_found : (P : PlainResponse → Type 0) (result : Result Response Stop) → TellsBy P result → TakesCourse (Responds P) result
tells_found P (Ok r) tells = responded _ tells refl
tells_found P (Err (Refused r)) tells = responded _ tells refl
tells_found P (Err ShelfFault) tells = tells
tells_found P (Err NoMemory) tells = out_of_memory refl

-- a stop of a stage that can't fail
pub stop_found : {X : Type 0} (stage : Stage X) (Goes : X → Course → Type 0) (stop : Stop) → (stage.Faults 0 → ⊥) → StopsBy stage 0 stop → TakesCourse (Behind stage Goes) (Err stop)
stop_found stage Goes (Refused r) never stops = refused (plain_response r) 0 stops refl
stop_found stage Goes ShelfFault never stops = never stops
stop_found stage Goes NoMemory never stops = short_of_memory 0 stops refl

-- what was found after what a stage opened
pub found_behind : {X : Type 0} (stage : Stage X) (Goes : X → Course →
    Type 0) (x : X) (result : Result Response Stop) → stage.Opens x 0 →
    TakesCourse (Goes x) result → TakesCourse (Behind stage Goes) result
found_behind stage Goes x (Ok r) opens finds = opened x 0 _ opens finds refl
found_behind stage Goes x (Err (Refused r)) opens finds = opened x 0 _ opens finds refl
found_behind stage Goes x (Err ShelfFault) opens finds = finds
found_behind stage Goes x (Err NoMemory) opens finds = opened x 0 _ opens finds refl

pub stop_counts : (before after : ℕ) (stop : Stop) → StopCounts before after stop → CountsShelf (ending_of (Err stop)) before after
stop_counts before after (Refused r) counts = counts
stop_counts before after ShelfFault counts = counts
stop_counts before after NoMemory counts = counts

-- a count that stayed
pub stays_from : (Counts : ℕ → ℕ → Type 0) (before after : ℕ) → CountStays before after → ((count : ℕ) → Counts count count) → Counts before after
stays_from Counts before after is all = subst (λ (n : ℕ). Counts before n) (sym is) (all before)
