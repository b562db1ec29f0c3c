-- The plain form of a place.
use Rattle.pv_read.specs.Left.{PlainStage, at_front, before_doctype, behind_doctype}
use Rattle.pv_read.specs.Places.{PlainPlace, prolog, content, epilog}
use Rattle.pv_read.specs.declared.places.PrologStage.{PrologStage}
use Rattle.pv_read.specs.declared.places.PrologStage.TheVariants as stage
use Rattle.pv_read.specs.declared.places.Place.{Place}
use Rattle.pv_read.specs.declared.places.Place.TheVariants as place

-- the plain form of how far a prolog is
abbrev pub plain_stage : PrologStage → PlainStage
plain_stage stage.AtFront = at_front
plain_stage stage.BeforeDoctype = before_doctype
plain_stage stage.BehindDoctype = behind_doctype

-- the plain form of a place
abbrev pub plain_place : Place → PlainPlace
plain_place (place.Prolog stage) = prolog (plain_stage stage)
plain_place (place.Content name open_elements) = content name.now open_elements
plain_place place.Epilog = epilog
