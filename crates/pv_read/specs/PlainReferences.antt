-- Which references may stand, by what the reader is told.
use Rattle.std.specs.Prelude.{ℕ, List}
use Rattle.pv_chars.specs.References.{IsReference, IsPredefined}
use Rattle.pv_tree.specs.Attributes.{IsKnownReference}
use Rattle.pv_read.specs.declared.forms.references.References.{References}
use Rattle.pv_read.specs.declared.forms.references.References.TheVariants as references

-- the references of this sort (XML 1.0, 4.1, 4.6)
abbrev pub IsReferenceOf : References → List ℕ → Type 0
IsReferenceOf references.Any bytes = IsReference bytes
IsReferenceOf references.Known bytes = IsKnownReference bytes

-- a reference of this sort may be to this name
abbrev pub MayBeNamed : References → List ℕ → Type 0
MayBeNamed references.Any name = Unit {0}
MayBeNamed references.Known name = IsPredefined name
