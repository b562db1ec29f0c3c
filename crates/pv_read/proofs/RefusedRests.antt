-- A refusal of a rest is one of the whole.
use Rattle.pv_read.specs.Meaning.{Outcome}
use Rattle.pv_read.specs.Errors.{Refuses}
use Rattle.pv_read.specs.declared.errors.DocError.{DocError}
use Rattle.pv_read.specs.declared.errors.DocError.TheVariants.{Syntax, Mismatch, Entity, Subset, DoctypeName, Deep, Limit, NoMemory}

pub Refuses-weaker : {M : Type 0} (P Q : Outcome M → Type 0) → ((o : Outcome M) → P o → Q o) → (e : DocError) → Refuses P e → Refuses Q e
Refuses-weaker P Q f (Syntax k) p = f _ p
Refuses-weaker P Q f (Mismatch k) p = f _ p
Refuses-weaker P Q f (Entity k) p = f _ p
Refuses-weaker P Q f Subset p = (p.0, f _ p.1)
Refuses-weaker P Q f DoctypeName p = (p.0, f _ p.1)
Refuses-weaker P Q f (Deep k) p = f _ p
Refuses-weaker P Q f Limit p = f _ p
Refuses-weaker P Q f NoMemory p = tt
