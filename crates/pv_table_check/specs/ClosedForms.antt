-- The values of a table under the forms that rules have.
use Rattle.std.specs.Prelude.{Bool, List, Some, min, slice_get, suc, true, ℕ, ◌+◌, ◌<◌, ◌≡◌, ◌≤◌}
use Rattle.pv_model.specs.Plain.{PlainToken, named, text}
use Rattle.pv_rules.specs.Derivations.{heaviest}
use Rattle.pv_rules.specs.Rules.{over}
use Rattle.pv_rules.specs.Sites.{PlainSite, content_site, name_site}
use Rattle.pv_tables.specs.Values.{listed_value}
use Rattle.pv_tables.specs.declared.tables.Entry.{Entry}

-- a site that may stand for nothing weighs nothing at each place
abbrev pub WeighsNothing : List Entry → PlainSite → ℕ → Type 0
WeighsNothing es left most = (i : ℕ) → i ≤ most → listed_value es (over left i i) ≡ 0

-- a site weighs no more than another over the same span, with this cost
abbrev pub WeighsAsOne : List Entry → PlainSite → PlainSite → ℕ → Type 0
WeighsAsOne es left right cost = (i j : ℕ) →
    listed_value es (over left i j) ≤ min heaviest (cost + listed_value es (over right i j))

-- a site from here on weighs no more than this and a second one after that, by the entries of the
-- one and of the other; the second may have to take some token
abbrev pub WeighsBehind : List Entry → List Entry → PlainSite → ℕ → ℕ → ℕ → PlainSite → Bool →
    Type 0
WeighsBehind ls es left i k value second inner = (j : ℕ) → (inner ≡ true → k < j) →
    listed_value ls (over left i j) ≤ min heaviest (value + listed_value es (over second k j))

-- a site weighs no more than a first and a second one after it, each of which may have to take
-- some token
abbrev pub WeighsAsTwo : List Entry → PlainSite → PlainSite → PlainSite → Bool → Bool → Type 0
WeighsAsTwo es left first second outer inner = (i k j : ℕ) → (outer ≡ true → i < k) →
    (inner ≡ true → k < j) → listed_value es (over left i j) ≤
    min heaviest (listed_value es (over first i k) + listed_value es (over second k j))

-- content from a text on weighs no more than the content after the text
abbrev pub WeighsAsBehindText : List Entry → List PlainToken → ℕ → Type 0
WeighsAsBehindText es w x = (i j : ℕ) → slice_get w i ≡ Some text →
    listed_value es (over (content_site x) i j) ≤
    min heaviest (listed_value es (over (content_site x) (suc i) j))

-- a name that stands in the word weighs nothing there
abbrev pub KeepsNames : List Entry → List PlainToken → Type 0
KeepsNames es w = (x i : ℕ) → slice_get w i ≡ Some (named x) →
    listed_value es (over (name_site x) i (suc i)) ≡ 0
