-- What the laws ask of a DTD; every DTD of the program has it.
use Rattle.std.specs.Prelude.{IsTrue, length, ◌≢◌, ◌≤◌}
use Rattle.std.specs.List.{AllByRecursion}
use Rattle.pv_model.specs.Plain.{PlainModel, PlainPart, PlainParts, any, children, choice, empty}
use Rattle.pv_model.specs.Plain.{mixed, name, no_parts, opt, part, plus, seq, star}
use Rattle.pv_dtd.specs.Facts.{are_distinct}
use Rattle.pv_dtd.specs.Plain.{PlainDtd, declared}

-- each sequence in a content particle has a member
abbrev mutual
  pub IsFull : PlainPart → Type 0
  IsFull (name y) = Unit {0}
  IsFull (seq ps) = (ps ≢ no_parts) × AreFullParts ps
  IsFull (choice ps) = AreFullParts ps
  IsFull (opt p) = IsFull p
  IsFull (star p) = IsFull p
  IsFull (plus p) = IsFull p

  pub AreFullParts : PlainParts → Type 0
  AreFullParts no_parts = Unit {0}
  AreFullParts (part p ps) = IsFull p × AreFullParts ps

abbrev pub IsFullModel : PlainModel → Type 0
IsFullModel empty = Unit {0}
IsFullModel any = Unit {0}
IsFullModel (mixed ys) = Unit {0}
IsFullModel (children p) = IsFull p

-- the names differ, the declared ones come first, and each sequence of a content model has a
-- member (XML 1.0, 3.2.1)
pub record IsProperDtd (g : PlainDtd) : Type 0 where
  pub distinct : IsTrue (are_distinct g.names)
  pub named : declared g ≤ length g.names
  pub full : AllByRecursion IsFullModel g.models
