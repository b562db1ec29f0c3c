-- How the pieces of a site over a span are put together, without more elements than it weighs.
use Rattle.std.specs.Prelude.{List, Some, slice_get, suc, ℕ, ◌*◌, ◌+◌, ◌-◌, ◌<◌, ◌≡◌, ◌≢◌, ◌≤◌, ◌⊎◌}
use Rattle.pv_model.specs.Plain.{PlainToken, named, text}
use Rattle.pv_dtd.specs.Plain.{PlainDtd, parts_in_models}
use Rattle.pv_rules.specs.Derivations.{IsWeight}
use Rattle.pv_rules.specs.PlainForms.{plain_site}
use Rattle.pv_rules.specs.Rules.{Goal, IsSpan, Rule, over}
use Rattle.pv_rules.specs.Sites.{HasSite, PlainSite, content_site, name_site, part_site, rest_site}
use Rattle.pv_complete.specs.Spelling.{HoldsData, MayBeNothing, MayBeOne, MayBeTwo}
use Rattle.pv_complete.specs.declared.words.pieces.Move.{Move}
use Rattle.pv_complete.specs.declared.words.pieces.Move.TheVariants as move

-- t tells the weight of each site of the DTD over each span
abbrev pub AreWeightsBy : PlainDtd → List PlainToken → (Goal → ℕ) → Type 0
AreWeightsBy g w t = (s : PlainSite) (i j : ℕ) → HasSite g s → IsSpan w i j →
    IsWeight (Rule g w) (over s i j) (t (over s i j))

-- By what is put together over one span, a site leads only to sites of a lower rank, but for a new
-- element's content, which weighs less.
abbrev pub site_rank : PlainDtd → PlainSite → ℕ
site_rank g (name_site x) = 0
site_rank g (part_site q) = suc (2 * (parts_in_models g.models - q))
site_rank g (rest_site q) = suc (suc (2 * (parts_in_models g.models - q)))
site_rank g (content_site x) = 3 + 2 * parts_in_models g.models

-- a move of a site over a span, whose weight is that of what it leads to, and of the element that
-- is new
abbrev pub IsMove : PlainDtd → List PlainToken → (Goal → ℕ) → PlainSite → ℕ → ℕ → Move → Type 0
IsMove g w t s i j move.Kept = (x : ℕ) × (s ≡ name_site x) × (j ≡ suc i) ×
    (slice_get w i ≡ Some (named x)) × (t (over s i j) ≡ 0)
IsMove g w t s i j (move.New id) = (s ≡ name_site id.0) × HasSite g (content_site id.0) ×
    (t (over s i j) ≡ suc (t (over (content_site id.0) i j)))
IsMove g w t s i j move.Text = (x : ℕ) × (s ≡ content_site x) × HoldsData g x × (i < j) ×
    (slice_get w i ≡ Some text) × (t (over s i j) ≡ t (over s (suc i) j))
IsMove g w t s i j move.Nothing = (i ≡ j) × MayBeNothing g s × (t (over s i j) ≡ 0)
IsMove g w t s i j (move.One r) = MayBeOne g s (plain_site r) × HasSite g (plain_site r) ×
    (site_rank g (plain_site r) < site_rank g s) × (t (over s i j) ≡ t (over (plain_site r) i j))
IsMove g w t s i j (move.Two r k q) = MayBeTwo g s (plain_site r) (plain_site q) ×
    HasSite g (plain_site r) × HasSite g (plain_site q) × (i ≤ k) × (k ≤ j) ×
    (site_rank g (plain_site r) < site_rank g s) ×
    ((i < k) ⊎ (site_rank g (plain_site q) < site_rank g s)) ×
    (t (over s i j) ≡ t (over (plain_site r) i k) + t (over (plain_site q) k j))

-- the move leads to one of the sites of these numbers, end left out, and the content of name x
-- after it
abbrev pub IsItem : (Goal → ℕ) → (ℕ → PlainSite) → ℕ → ℕ → ℕ → ℕ → ℕ → ℕ → Move → Type 0
IsItem t f first end x i j n move.Kept = ⊥
IsItem t f first end x i j n (move.New id) = ⊥
IsItem t f first end x i j n move.Text = ⊥
IsItem t f first end x i j n move.Nothing = ⊥
IsItem t f first end x i j n (move.One r) = ⊥
IsItem t f first end x i j n (move.Two r k q) = (e : ℕ) × (first ≤ e) × (e < end) ×
    (plain_site r ≡ f e) × (plain_site q ≡ content_site x) × (i < k) × (k ≤ j) ×
    (n ≡ t (over (f e) i k) + t (over (content_site x) k j))

-- no such move weighs n
abbrev pub IsNoItem : (Goal → ℕ) → (ℕ → PlainSite) → ℕ → ℕ → ℕ → ℕ → ℕ → ℕ → Type 0
IsNoItem t f first end x i j n = (e k : ℕ) → first ≤ e → e < end → i < k → k ≤ j →
    n ≢ t (over (f e) i k) + t (over (content_site x) k j)
