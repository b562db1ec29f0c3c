-- A sequence has a member.
use Rattle.std.specs.Prelude.{IsTrue, nat_le}
use Rattle.std.specs.List.{list_all}
use Rattle.std.proofs.Common.{Some, true, ℕ, ◌≡◌}
use Rattle.std.proofs.lemmas.Bool.{and_parts}
use Rattle.pv_model.specs.Plain.{PlainPart, PlainParts, no_parts, part, seq}
use Rattle.pv_dtd.specs.Facts.{are_formed_parts, is_formed_model, members}
use Rattle.pv_dtd.specs.Plain.{PlainDtd}
use Rattle.pv_rules.specs.Numbering.{part_at}
use Rattle.pv_rules.proofs.FormedParts.{parts_formed}

member_case : (g : PlainDtd) (q : ℕ) (ps : PlainParts) → nat_le 1 (members ps) ≡ true → part_at g q ≡ Some (seq ps) → (p : PlainPart) × (qs : PlainParts) × (part_at g q ≡ Some (seq (part p qs)))
member_case g q no_parts e at = absurd cc
member_case g q (part p qs) e at = (p, qs, at)

pub some_member : (g : PlainDtd) → IsTrue (list_all is_formed_model g.models) →
    (q : ℕ) (ps : PlainParts) → part_at g q ≡ Some (seq ps) → (p : PlainPart) × (qs : PlainParts)
    × (part_at g q ≡ Some (seq (part p qs)))
some_member g f q ps at = member_case g q ps (and_parts (nat_le 1 (members ps)) (are_formed_parts ps) (parts_formed g f q (seq ps) at)).0 at
