-- The kinds of sites in the order of entries.
use Rattle.std.specs.Prelude.{length, ℕ}
use Rattle.pv_dtd.specs.Plain.{PlainDtd, parts_in_models}
use Rattle.pv_complete.specs.declared.listings.kinds.SiteKind.{SiteKind}
use Rattle.pv_complete.specs.declared.listings.kinds.SiteKind.TheVariants as kind

abbrev pub rank_of_kind : SiteKind → ℕ
rank_of_kind kind.Content = 0
rank_of_kind kind.Name = 1
rank_of_kind kind.Part = 2
rank_of_kind kind.Rest = 3

-- how many numbers there are of a kind; not every part is a member of a sequence
abbrev pub count_of : PlainDtd → SiteKind → ℕ
count_of g kind.Content = length g.names
count_of g kind.Name = length g.names
count_of g kind.Part = parts_in_models g.models
count_of g kind.Rest = parts_in_models g.models
