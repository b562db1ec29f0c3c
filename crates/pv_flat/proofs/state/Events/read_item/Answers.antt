use Rattle.std.proofs.Common.{◌≡◌, length, arith, sym, ◌∙◌, map, Bor, List, ℕ}
use Rattle.std.proofs.lemmas.List.{length-map, length-reverse}
use Rattle.pv_flat.proofs.States.{read-inside, refused-in-place}
use Rattle.pv_flat.proofs.state.Events.read_item.Goals as goal

number : (items : List (Bor (List ℕ))) (n : ℕ) → n ≡ length items → n ≡ length (Rattle.std.proofs.Common.reverse (map (λ (b : Bor (List ℕ)). b.now) items))
number items n is = is ∙ sym (length-map items (λ (b : Bor (List ℕ)). b.now)) ∙ sym (length-reverse (map (λ (b : Bor (List ℕ)). b.now) items))

pub returns-clause-taken : goal.returns-clause-taken
returns-clause-taken c =
    let n : c.len.result ≡ length c.args.self.now.elements.items = omega arith in
    read-inside c.args.self.now c.args.name.now c.len.result c.next_item.result c.requires (number c.args.self.now.elements.items c.len.result n) (rw c.as_slice.ensures at c.next_item.ensures.taken)

pub returns-clause-refused : goal.returns-clause-refused
returns-clause-refused c =
    let n : c.len.result ≡ length c.args.self.now.elements.items = omega arith in
    refused-in-place c.args.self.now c.args.name.now c.len.result c.next_item.result c.requires
    (number c.args.self.now.elements.items c.len.result n)
    (rw c.as_slice.ensures at c.next_item.ensures.refused)
