-- Where the row of each site stands.
use Rattle.std.specs.Prelude.{List, Some, get_or, length, slice_get, suc, zero, ℕ, ◌<◌, ◌≡◌, ◌≢◌}
use Rattle.pv_dtd.specs.Plain.{PlainDtd}
use Rattle.pv_rules.specs.PlainForms.{plain_site}
use Rattle.pv_rules.specs.Sites.{HasSite, PlainSite, content_site, name_site, part_site, rest_site}
use Rattle.pv_denial.specs.declared.denials.Row.{Row}
use Rattle.pv_denial.specs.declared.index.Index.{Index}

-- what the index has for a site
abbrev pub slot : Index → PlainSite → ℕ
slot ix (name_site x) = get_or ix.names.items x 0
slot ix (content_site x) = get_or ix.contents.items x 0
slot ix (part_site q) = get_or ix.parts.items q 0
slot ix (rest_site q) = get_or ix.rests.items q 0

-- it has room for the site
abbrev pub HasPlaceFor : Index → PlainSite → Type 0
HasPlaceFor ix (name_site x) = x < length ix.names.items
HasPlaceFor ix (content_site x) = x < length ix.contents.items
HasPlaceFor ix (part_site q) = q < length ix.parts.items
HasPlaceFor ix (rest_site q) = q < length ix.rests.items

-- it has room for each site of the DTD
abbrev pub HasPlaceForEach : PlainDtd → Index → Type 0
HasPlaceForEach g ix = (s : PlainSite) → HasSite g s → HasPlaceFor ix s

-- of the first n rows none has the site, or that of the number before v
abbrev pub IsSlot : List Row → ℕ → PlainSite → ℕ → Type 0
IsSlot rows n s zero = (k : ℕ) (r : Row) → k < n → slice_get rows k ≡ Some r → plain_site r.site ≢ s
IsSlot rows n s (suc k) =
    (r : Row) × (k < n) × (slice_get rows k ≡ Some r) × (plain_site r.site ≡ s)

-- the index has the first n rows
abbrev pub IsIndex : List Row → ℕ → Index → Type 0
IsIndex rows n ix = (s : PlainSite) → IsSlot rows n s (slot ix s)
