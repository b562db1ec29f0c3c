-- The members of a sequence, as they are read off the parts laid out flat.
use Rattle.std.specs.Prelude.{None, Option, Some, ℕ, ◌+◌}
use Rattle.pv_model.specs.Plain.{PlainParts, no_parts, part}
use Rattle.pv_dtd.specs.Plain.{parts_in}

-- the number of the member after number q, where these are the members from q on
abbrev pub next_number : ℕ → Option PlainParts → Option ℕ
next_number q None = None
next_number q (Some no_parts) = None
next_number q (Some (part p no_parts)) = None
next_number q (Some (part p (part r ps))) = Some (q + parts_in p)
