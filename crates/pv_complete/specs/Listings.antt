-- Entries that are listed one after another, as the walk over sites and spans carries the proof.
use Rattle.std.specs.Prelude.{List, [], length, ℕ, ◌<◌, ◌∷◌, ◌≡◌, ◌≤◌}
use Rattle.std.specs.List.{All, AllPairs, Contains}
use Rattle.pv_dtd.specs.Plain.{PlainDtd}
use Rattle.pv_rules.specs.Derivations.{heaviest}
use Rattle.pv_rules.specs.PlainForms.{plain_site}
use Rattle.pv_rules.specs.Rules.{Goal, over}
use Rattle.pv_rules.specs.Sites.{HasSite}
use Rattle.pv_tables.specs.declared.tables.Entry.{Entry}
use Rattle.pv_tables.specs.Tables.{IsBefore, Precedes, key_of}
use Rattle.pv_complete.specs.declared.errors.NeedError.{NeedError}
use Rattle.pv_complete.specs.declared.errors.NeedError.TheVariants.{Impossible, NoMemory, TooHeavy}
use Rattle.pv_complete.specs.declared.errors.NeedError.TheVariants.{TooMany, TooWide}

-- the value is what t tells of a site over a span of a word of n tokens, and isn't past the cut
pub record IsLight (g : PlainDtd) (n : ℕ) (t : Goal → ℕ) (e : Entry) : Type 0 where
  pub is_site : HasSite g (plain_site e.site)
  pub begins : e.from ≤ e.to
  pub ends : e.to ≤ n
  pub weighs : e.value ≡ t (over (plain_site e.site) e.from e.to)
  pub light : e.value < heaviest

-- a key is one of the kind k and the number q, of a span from i up to j
abbrev pub key : ℕ → ℕ → ℕ → ℕ → List ℕ
key k q i j = k ∷ q ∷ i ∷ j ∷ []

-- These are the light entries before this key, in strict order.
pub record IsListedTo (g : PlainDtd) (n : ℕ) (t : Goal → ℕ) (ks : List ℕ) (es : List Entry) :
    Type 0 where
  pub each : All (IsLight g n t) es
  pub before : All (λ e. IsBefore (key_of e) ks) es
  pub ascend : AllPairs Precedes es
  pub all : (e : Entry) → IsLight g n t e → IsBefore (key_of e) ks → Contains es e

-- there are more light entries
pub record HasMoreLight (g : PlainDtd) (n : ℕ) (t : Goal → ℕ) (room : ℕ) : Type 0 where
  pub entries : List Entry
  pub each : All (IsLight g n t) entries
  pub ascend : AllPairs Precedes entries
  pub more : room < length entries

-- why no more entries are listed
abbrev pub StopsListing : PlainDtd → ℕ → (Goal → ℕ) → ℕ → NeedError → Type 0
StopsListing g n t room (Impossible path) = ⊥
StopsListing g n t room (TooWide path) = ⊥
StopsListing g n t room TooHeavy = ⊥
StopsListing g n t room TooMany = HasMoreLight g n t room
StopsListing g n t room NoMemory = Unit {0}
