-- The order of work: stages, one after another. Each opens something, or refuses, or stops, after
-- so many fetches.
use Rattle.std.specs.Prelude.{◌≡◌, ◌⊎◌, ℕ, ◌+◌}
use Rattle.pv_opening.specs.Course.{Course, after_fetches, without_input, responds, shelf_fault}
use Rattle.pv_opening.specs.Course.{no_memory}
use Rattle.pv_opening.specs.Response.{PlainResponse}

-- What a stage may open and the responses with which it may refuse, where the last of its fetches
-- may fail, and where it may want memory: each with the number of files that it has fetched by
-- then.
pub record Stage (X : Type 0) : Type 1 where
  pub Opens : X → ℕ → Type 0
  pub Refuses : PlainResponse → ℕ → Type 0
  pub Faults : ℕ → Type 0
  pub Lacks : ℕ → Type 0

-- a stage that fetches nothing
abbrev pub without_fetch : {X : Type 0} → (X → Type 0) → (PlainResponse → Type 0) → Stage X
without_fetch Opens Refuses = record {
  Opens = λ x n. Opens x × (n ≡ 0);
  Refuses = λ r n. Refuses r × (n ≡ 0);
  Faults = λ n. ⊥;
  Lacks = λ n. n ≡ 0;
}

-- a stage that is a test alone
abbrev pub test_stage : Type 0 → (PlainResponse → Type 0) → Stage (Unit {0})
test_stage Holds Refuses = without_fetch (λ _. Holds) Refuses

-- a stage opens something, and after it comes this; the fetches of both count
abbrev pub And : {X : Type 0} → Stage X → (X → ℕ → Type 0) → ℕ → Type 0
And {X} stage Comes n =
    (x : X) × (k : ℕ) × (m : ℕ) × stage.Opens x k × Comes x m × (n ≡ k + m)

-- one stage, and after what it opens another
abbrev pub followed_by : {X Y : Type 0} → Stage X → (X → Stage Y) → Stage Y
followed_by {X} first second = record {
  Opens = λ y n. And first (λ x. (second x).Opens y) n;
  Refuses = λ r n. first.Refuses r n ⊎ And first (λ x. (second x).Refuses r) n;
  Faults = λ n. first.Faults n ⊎ And first (λ x. (second x).Faults) n;
  Lacks = λ n. first.Lacks n ⊎ And first (λ x. (second x).Lacks) n;
}

-- a stage that also hands on what was opened before it
abbrev pub beside : {X Y : Type 0} → X → Stage Y → Stage (X × Y)
beside x stage = record {
  Opens = λ both n. (both.0 ≡ x) × stage.Opens both.1 n;
  Refuses = stage.Refuses;
  Faults = stage.Faults;
  Lacks = stage.Lacks;
}

-- A run over a stage: it goes on with what was opened, or ends with a refusal, at a fault of the
-- shelf, or for want of memory. Where it ends, the input wasn't asked.
pub data Behind {X : Type 0} (stage : Stage X) (Goes : X → Course → Type 0) (course : Course) :
    Type 0 where
  opened : (x : X) (k : ℕ) (rest : Course) → stage.Opens x k → Goes x rest →
      course ≡ after_fetches k rest → Behind stage Goes course
  refused : (r : PlainResponse) (k : ℕ) → stage.Refuses r k →
      course ≡ without_input k (responds r) → Behind stage Goes course
  stopped : (k : ℕ) → stage.Faults k → course ≡ without_input k shelf_fault →
      Behind stage Goes course
  short_of_memory : (k : ℕ) → stage.Lacks k → course ≡ without_input k no_memory →
      Behind stage Goes course

-- the end of the order of work: such a response, or want of memory
pub data Responds (IsResponse : PlainResponse → Type 0) (course : Course) : Type 0 where
  responded : (r : PlainResponse) → IsResponse r → course ≡ without_input 0 (responds r) →
      Responds IsResponse course
  short_of_memory : course ≡ without_input 0 no_memory → Responds IsResponse course
