-- Entries over a word are closed where they are at all names and parts of the DTD.
use Rattle.std.specs.Prelude.{IsSome, option_and_then, option_map, slice_get}
use Rattle.std.proofs.Common.{List, None, Option, Some, arith, inl, inr, length, refl, ℕ, ◌<◌, ◌≡◌, ◌⊎◌}
use Rattle.pv_model.specs.Plain.{PlainParts, PlainToken}
use Rattle.pv_dtd.specs.Plain.{PlainDtd, parts_in_models}
use Rattle.pv_rules.specs.ClosedTables.{IsClosedAtSites}
use Rattle.pv_rules.specs.Derivations.{IsClosed, heaviest}
use Rattle.pv_rules.specs.Numbering.{Numbered, numbered_models, part_at, rest_at}
use Rattle.pv_rules.specs.Rules.{IsSpan, Rule, over}
use Rattle.pv_rules.specs.Sites.{HasSite, PlainSite, content_site, name_site, part_site, rest_site}
use Rattle.pv_rules.proofs.Facts.{parts_by_number}
use Rattle.pv_rules.proofs.Members.{some_part}
use Rattle.pv_tables.specs.TableLaws.{ListedOrNot}
use Rattle.pv_tables.specs.Values.{listed_value}
use Rattle.pv_tables.specs.declared.tables.Entry.{Entry}
use Rattle.pv_table_check.specs.ClosedEntries.{AreOver, AreClosedAt}
use Rattle.pv_table_check.specs.ClosedForms.{KeepsNames, WeighsAsOne}
use Rattle.pv_table_check.proofs.EntriesAtSites.{kept_from, name_from, name_to}
use Rattle.pv_table_check.proofs.ClosureByForms.{known_or_heavy}

some_of : {A : Type 0} (o : Option A) → IsSome o → (a : A) × (o ≡ Some a)
some_of None h = absurd cc
some_of (Some a) h = (a, refl)

module _ (g : PlainDtd) where
  part_few : (q : ℕ) → IsSome (part_at g q) → q < parts_in_models g.models
  part_few q h =
      let p = some_of (part_at g q) h in let w = (parts_by_number g).within q p.0 p.1 in let s = some_part p.0 in omega arith

  rest_case : (o : Option Numbered) (ps : PlainParts) → option_and_then (λ p. p.rest) o ≡ Some ps → IsSome (option_map (λ p. p.self) o)
  rest_case None ps e = absurd cc
  rest_case (Some p) ps e = refl

  rest_has : (q : ℕ) (ps : PlainParts) → rest_at g q ≡ Some ps → IsSome (part_at g q)
  rest_has q ps e = rest_case (slice_get (numbered_models g.models) q) ps e

  rest_few : (q : ℕ) → IsSome (rest_at g q) → q < parts_in_models g.models
  rest_few q h = let r = some_of (rest_at g q) h in part_few q (rest_has q r.0 r.1)

module _ (cases : ListedOrNot) (g : PlainDtd) (w : List PlainToken) (es : List Entry) (are : AreOver g w es) where
  abbrev AtNames : Type 0
  AtNames = (x : ℕ) → x < length g.names → WeighsAsOne es (name_site x) (content_site x) 1 × AreClosedAt g w es (content_site x)

  abbrev AtParts : Type 0
  AtParts = (q : ℕ) → q < parts_in_models g.models → AreClosedAt g w es (part_site q) × AreClosedAt g w es (rest_site q)

  pub at_sites : KeepsNames es w → AtNames → AtParts → IsClosedAtSites g w (listed_value es)
  at_sites keeps names parts = record { closed = λ s i j c xs has span r. by_site s has i j c xs r; elsewhere = λ s i j none. by_case s i j none (known_or_heavy cases g w es are s i j) }
    where
      by_site : (s : PlainSite) → HasSite g s → AreClosedAt g w es s
      by_site (name_site x) lt = name_to cases g w es are x keeps (names x lt).0
      by_site (content_site x) lt = (names x lt).1
      by_site (part_site q) h = (parts q (part_few g q h)).0
      by_site (rest_site q) h = (parts q (rest_few g q h)).1

      by_case : (s : PlainSite) (i j : ℕ) → (HasSite g s → ⊥) → (HasSite g s × IsSpan w i j) ⊎ (listed_value es (over s i j) ≡ heaviest) → listed_value es (over s i j) ≡ heaviest
      by_case s i j none (inl (has, span)) = absurd (none has)
      by_case s i j none (inr v) = v

  module _ (h : IsClosed (Rule g w) (listed_value es)) where
    at : (s : PlainSite) → AreClosedAt g w es s
    at s i j c xs r = h (over s i j) c xs r

    pub keeps_names : KeepsNames es w
    keeps_names x i e = kept_from cases g w es are x (at (name_site x)) i e

    pub names_closed : AtNames
    names_closed x lt = (name_from cases g w es are x (at (name_site x)), at (content_site x))

    pub parts_closed : AtParts
    parts_closed q lt = (at (part_site q), at (rest_site q))
