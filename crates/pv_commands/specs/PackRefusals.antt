-- How what has no pack is refused.
use Rattle.std.specs.Prelude.{◌≡◌, ◌++◌, codes}
use Rattle.pv_complete.specs.declared.errors.NeedError.{NeedError}
use Rattle.pv_complete.specs.declared.errors.NeedError.TheVariants.{Impossible, NoMemory}
use Rattle.pv_complete.specs.declared.errors.NeedError.TheVariants.{TooHeavy, TooMany, TooWide}
use Rattle.pv_words.specs.Paths.{path_text}
use Rattle.pv_opening.specs.declared.status.Status.TheVariants.{Limit, Negative}
use Rattle.pv_opening.specs.Response.{PlainResponse, with_line}

-- the response for such a reason; want of memory has none
abbrev pub IsRefusalFor : NeedError → PlainResponse → Type 0
IsRefusalFor (Impossible path) r = r ≡ with_line Negative (codes "impossible " ++ path_text path)
IsRefusalFor (TooWide path) r = r ≡ with_line Limit (codes "limit width " ++ path_text path)
IsRefusalFor TooHeavy r = r ≡ with_line Limit (codes "limit weight")
IsRefusalFor TooMany r = r ≡ with_line Limit (codes "limit tables")
IsRefusalFor NoMemory r = ⊥
