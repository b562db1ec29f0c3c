-- What denies a document, and why nothing does.
use Rattle.std.specs.Prelude.{Err, List, Ok, Result, Some, [], length, slice_get, suc, ℕ, ◌*◌, ◌<◌}
use Rattle.std.specs.Prelude.{◌≡◌, ◌≢◌, ◌≤◌}
use Rattle.std.specs.List.{AllByRecursion, Contains}
use Rattle.pv_model.specs.Plain.{PlainToken}
use Rattle.pv_dtd.specs.Plain.{PlainDtd}
use Rattle.pv_rules.specs.SiteDerivations.{DerivesAt}
use Rattle.pv_rules.specs.PlainForms.{plain_site}
use Rattle.pv_rules.specs.Sites.{HasSite, PlainSite}
use Rattle.pv_tree.specs.Lists.{Listed, lists_of}
use Rattle.pv_tree.specs.Plain.{PlainDoc}
use Rattle.pv_tree.specs.View.{view}
use Rattle.pv_tree.specs.Words.{word_of}
use Rattle.pv_missing.specs.Completions.{IsPotentiallyValid}
use Rattle.pv_missing.specs.LiveWords.{IsLiveWord}
use Rattle.pv_missing.specs.Verdicts.{IsFirstImpossible, IsLive}
use Rattle.pv_missing.specs.Widths.{IsFirstTooWide, IsListForVerdict}
use Rattle.pv_reach.specs.FurthestEnds.{IsGreatestEnd}
use Rattle.pv_denial.specs.Causes.{IsCause}
use Rattle.pv_denial.specs.Judgements.{IsAbout}
use Rattle.pv_denial.specs.Rows.{EachRow, IsSiteBefore, most_values, values_in}
use Rattle.pv_denial.specs.declared.denials.Cause.TheVariants as cause
use Rattle.pv_denial.specs.declared.denials.Denial.{Denial}
use Rattle.pv_denial.specs.declared.denials.Row.{Row}
use Rattle.pv_deny.specs.declared.errors.DenyError.{DenyError}
use Rattle.pv_deny.specs.declared.errors.DenyError.TheVariants.{NoMemory, Possible, TooMany}
use Rattle.pv_deny.specs.declared.errors.DenyError.TheVariants.{TooWide}

-- the site has a derivation over some tokens of the word
abbrev pub DerivesSome : PlainDtd → List PlainToken → PlainSite → Type 0
DerivesSome g w s = (i : ℕ) × (j : ℕ) × DerivesAt g w s i j

-- the row of a site that derives something: for each place, the greatest to which it has a
-- derivation from there
pub record IsFurthestRow (g : PlainDtd) (w : List PlainToken) (r : Row) : Type 0 where
  pub has : HasSite g (plain_site r.site)
  pub derives : DerivesSome g w (plain_site r.site)
  pub long : length r.values ≡ suc (length w)
  pub ends : (i v : ℕ) → slice_get r.values i ≡ Some v →
      IsGreatestEnd g w (plain_site r.site) i (Some v)

-- the rows of all sites that derive something, in their order
pub record AreFurthestRows (g : PlainDtd) (w : List PlainToken) (rows : List Row) : Type 0 where
  pub each : EachRow (IsFurthestRow g w) rows
  pub ascend : (j k : ℕ) (q r : Row) → j < k → slice_get rows j ≡ Some q →
      slice_get rows k ≡ Some r → IsSiteBefore (plain_site q.site) (plain_site r.site)
  pub all : (s : PlainSite) → HasSite g s → DerivesSome g w s →
      (k : ℕ) × (r : Row) × (slice_get rows k ≡ Some r) × (plain_site r.site ≡ s)

-- all sites that derive something, in their order
pub record AreDerivingSites (g : PlainDtd) (w : List PlainToken) (sites : List PlainSite) : Type 0
  where
    pub each : (k : ℕ) (s : PlainSite) → slice_get sites k ≡ Some s →
        HasSite g s × DerivesSome g w s
    pub ascend : (j k : ℕ) (a b : PlainSite) → j < k → slice_get sites j ≡ Some a →
        slice_get sites k ≡ Some b → IsSiteBefore a b
    pub all : (s : PlainSite) → HasSite g s → DerivesSome g w s →
        (k : ℕ) × (slice_get sites k ≡ Some s)

-- What denies a document: its first impossible list, that list's cause, and where that is its word,
-- the rows of furthest places over the live word, which have no more values than there may be. No
-- list is too wide.
pub record IsDenialOf {M : Type 0} (g : PlainDtd) (root : List ℕ) (doc : PlainDoc M) (d : Denial)
    : Type 0 where
  pub list : Listed M
  pub is_about : IsAbout doc d list
  pub is_first : IsFirstImpossible g root (lists_of doc) d.path
  pub impossible : ¬ IsLive g root list
  pub narrow : AllByRecursion (IsListForVerdict g) (lists_of doc)
  pub is_cause : IsCause g root list d.cause
  pub by_word : d.cause ≡ cause.Word → (w : List PlainToken) ×
      IsLiveWord g (word_of g list.kids) w × AreFurthestRows g w d.rows
  pub few : values_in d.rows ≤ most_values
  pub no_rows : d.cause ≢ cause.Word → d.rows ≡ []

-- The first impossible list is so by its word, and a value for each site that derives something
-- over the live word and each place of it would be more values than there may be. No list is too
-- wide.
pub record HasTooMany {M : Type 0} (g : PlainDtd) (root : List ℕ) (doc : PlainDoc M) : Type 0 where
  pub list : Listed M
  pub is_listed : Contains (lists_of doc) list
  pub is_first : IsFirstImpossible g root (lists_of doc) list.path
  pub impossible : ¬ IsLive g root list
  pub narrow : AllByRecursion (IsListForVerdict g) (lists_of doc)
  pub is_cause : IsCause g root list cause.Word
  pub live : List PlainToken
  pub is_live : IsLiveWord g (word_of g list.kids) live
  pub sites : List PlainSite
  pub are_sites : AreDerivingSites g live sites
  pub many : most_values < length sites * suc (length live)

-- a denial; the path of the first list that is too wide; the document is potentially valid; the
-- rows would have too many values
pub data Outcome : Type 0 where
  is_denial : (d : Denial) → Outcome
  is_too_wide : (path : List ℕ) → Outcome
  is_possible : Outcome
  is_too_many : Outcome

-- What comes of the question why no insertions make a document valid.
abbrev pub HasOutcome : {M : Type 0} → PlainDtd → List ℕ → PlainDoc M → Outcome → Type 0
HasOutcome g root doc (is_denial d) = IsDenialOf g root doc d
HasOutcome g root doc (is_too_wide path) = IsFirstTooWide g (lists_of doc) path
HasOutcome g root doc is_possible = AllByRecursion (IsListForVerdict g) (lists_of doc) ×
    IsPotentiallyValid g root (view doc.root)
HasOutcome g root doc is_too_many = HasTooMany g root doc

-- the outcome that the error tells; nothing is known where memory was wanting
abbrev pub HasOutcomeBy : {M : Type 0} → PlainDtd → List ℕ → PlainDoc M → DenyError → Type 0
HasOutcomeBy g root doc (TooWide path) = HasOutcome g root doc (is_too_wide path)
HasOutcomeBy g root doc Possible = HasOutcome g root doc is_possible
HasOutcomeBy g root doc TooMany = HasOutcome g root doc is_too_many
HasOutcomeBy g root doc NoMemory = Unit {0}

-- the result is this outcome, or want of memory
abbrev pub Answers : Outcome → Result Denial DenyError → Type 0
Answers (is_denial d) (Ok e) = e ≡ d
Answers (is_denial d) (Err (TooWide path)) = ⊥
Answers (is_denial d) (Err Possible) = ⊥
Answers (is_denial d) (Err TooMany) = ⊥
Answers (is_denial d) (Err NoMemory) = Unit {0}
Answers (is_too_wide p) (Ok e) = ⊥
Answers (is_too_wide p) (Err (TooWide path)) = path ≡ p
Answers (is_too_wide p) (Err Possible) = ⊥
Answers (is_too_wide p) (Err TooMany) = ⊥
Answers (is_too_wide p) (Err NoMemory) = Unit {0}
Answers is_possible (Ok e) = ⊥
Answers is_possible (Err (TooWide path)) = ⊥
Answers is_possible (Err Possible) = Unit {0}
Answers is_possible (Err TooMany) = ⊥
Answers is_possible (Err NoMemory) = Unit {0}
Answers is_too_many (Ok e) = ⊥
Answers is_too_many (Err (TooWide path)) = ⊥
Answers is_too_many (Err Possible) = ⊥
Answers is_too_many (Err TooMany) = Unit {0}
Answers is_too_many (Err NoMemory) = Unit {0}
