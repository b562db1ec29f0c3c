-- The sites of the missing grammar, by the numbers of names and parts.
use Rattle.std.specs.Prelude.{IsSome, length, ℕ, ◌<◌}
use Rattle.pv_dtd.specs.Plain.{PlainDtd}
use Rattle.pv_rules.specs.Numbering.{part_at, rest_at}

-- an element of a name, the content of one, a part, and the members of a sequence from this one on
pub data PlainSite : Type 0 where
  name_site : ℕ → PlainSite
  content_site : ℕ → PlainSite
  part_site : ℕ → PlainSite
  rest_site : ℕ → PlainSite

-- The DTD has the site. The content of a name that is only mentioned is one, to which no rule leads
-- anything. Only a member of a sequence has members from it on.
abbrev pub HasSite : PlainDtd → PlainSite → Type 0
HasSite g (name_site x) = x < length g.names
HasSite g (content_site x) = x < length g.names
HasSite g (part_site q) = IsSome (part_at g q)
HasSite g (rest_site q) = IsSome (rest_at g q)
