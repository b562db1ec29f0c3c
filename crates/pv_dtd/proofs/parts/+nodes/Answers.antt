use Rattle.std.proofs.Common.{◌≡◌, ◌+◌, ℕ, List, [], ◌∷◌, ◌++◌, map, take, ap, ◌∙◌, sym, arith}
use Rattle.std.proofs.lemmas.List.{take_more, map-append}
use Rattle.pv_dtd.specs.Items.{NamedPart, named_parts_of, particles_in, particles_in_all}
use Rattle.pv_dtd.specs.NamedForms.{named_part}
use Rattle.pv_dtd.proofs.parts.+nodes.Goals as goal

nodes-push : (members : List NamedPart) (p : NamedPart) → particles_in_all (named_parts_of (members ++ p ∷ [])) ≡ particles_in_all (named_parts_of members) + particles_in p
nodes-push [] p = omega arith
nodes-push (q ∷ qs) p = omega (arith, nodes-push qs p)

one_more : {A : Type 0} (f : A → NamedPart) (xs : List A) (i n : ℕ) (x : A) →
    take (i + 1) xs ≡ take i xs ++ x ∷ [] →
    particles_in_all (named_parts_of (map f (take (i + 1) xs))) ≡ particles_in_all
    (named_parts_of (map f (take i xs))) + particles_in (f x)
one_more f xs i n x e = ap (λ ys. particles_in_all (named_parts_of (map f ys))) e
    ∙ ap (λ ps. particles_in_all (named_parts_of ps)) (map-append f (take i xs) (x ∷ []))
    ∙ nodes-push (map f (take i xs)) (f x)

pub particles_in_all-loop-member-preserved : goal.particles_in_all-loop-member-preserved
particles_in_all-loop-member-preserved t c =
    let more = take_more c.args.members.now c.loop-member.member-index c.member-item.result
    (omega arith) ∙ ap (λ m. take c.loop-member.member-index c.args.members.now ++ m ∷ [])
    (sym c.member-item.is) in
    let counted = one_more named_part c.args.members.now c.loop-member.member-index 0 c.member-item.result more in
    omega (arith, counted, c.loop-member.invariant, c.particles_in.ensures, c.saturating_add-count.ensures)
