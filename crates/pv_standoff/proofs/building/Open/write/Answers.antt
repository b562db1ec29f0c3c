use Rattle.std.proofs.Common.{◌≡◌, ◌≤◌, ◌<◌, ℕ, List, [], ◌∷◌, ◌++◌, length, take, refl, sym, ◌∙◌, ap, rules, arith, length-append}
use Rattle.std.proofs.lemmas.List.{map-append, length-take-le}
use Rattle.pv_tree.specs.Plain.{Tree, text_node}
use Rattle.pv_tree.specs.PlainForms.{plain, plain_all}
use Rattle.pv_tree.specs.declared.nodes.Mark.{Mark}
use Rattle.pv_tree.specs.declared.nodes.Node.{Node, Text, the_lemmas}
use Rattle.pv_standoff.specs.PlainForms.{plain_open}
use Rattle.pv_standoff.specs.Stacks.{with_text, write}
use Rattle.pv_chars.specs.Texts.{joined}
use Rattle.pv_chars.specs.Units.{units_in}
use Rattle.pv_standoff.proofs.TextLemmas.{cut_whole, front_is, some_front, spells_front, spells-take, spelled-units}
use Rattle.pv_standoff.proofs.building.Open.write.Goals as goal
use Rattle.pv_standoff.proofs.building.Open.write.Goals.{then-count-gt0+in_ok-units+in_ok-push, else-count-gt0}

pub overflow_sub-rest : goal.overflow_sub-rest
overflow_sub-rest c =
    let w = cut_whole c.args.rest.now c.behind_units-more.result.now (units_in c.args.rest.now) c.args.count c.requires.units c.behind_units-more.ensures in
    let l = ap length w in
    let a = length-append (joined (take c.args.count (units_in c.args.rest.now))) c.behind_units-more.result.now in
    omega (arith, l, a)

pub text_of-requires-clause-some : goal.text_of-requires-clause-some
text_of-requires-clause-some c = λ e.
    some_front c.args.rest.now c.behind_units-more.result.now (units_in c.args.rest.now) c.args.count c.if-count-gt0.true c.requires.within c.requires.units
    (sym (front_is c.args.rest.now c.behind_units-more.result.now (units_in c.args.rest.now) c.args.count c.requires.units c.behind_units-more.ensures) ∙ sym c.split_at.ensures.front ∙ e)

pub text_of-requires-clause-units : goal.text_of-requires-clause-units
text_of-requires-clause-units c =
    spells_front c.args.rest.now c.split_at.result.0.now (units_in c.args.rest.now) c.args.count c.requires.units
    (c.split_at.ensures.front ∙ front_is c.args.rest.now c.behind_units-more.result.now (units_in c.args.rest.now) c.args.count c.requires.units c.behind_units-more.ensures)

with_text_some : (ks : List (Tree Mark)) (us : List (List ℕ)) → (us ≡ [] → ⊥) → ks ++ text_node us ∷ [] ≡ with_text ks us
with_text_some ks [] some = absurd (some refl)
with_text_some ks (u ∷ us) some = refl

plain_text : (u : List (List ℕ)) → plain (Text u) ≡ text_node u
plain_text u = search (rules, the_lemmas)

push_text : (ks : List Node) (u : List (List ℕ)) → plain_all (ks ++ Text u ∷ []) ≡ plain_all ks ++ text_node u ∷ []
push_text ks u = map-append plain ks (Text u ∷ []) ∙ ap (λ z. plain_all ks ++ z ∷ []) (plain_text u)

take_some : (us : List (List ℕ)) (n : ℕ) → 0 < n → n ≤ length us → take n us ≡ [] → ⊥
take_some us n some within none = let l = length-take-le n us within in let k = ap length none in omega (arith, l, k, some)

pub returns-clause-kids : goal.returns-clause-kids
returns-clause-kids c = elim c.if-count-gt0.branch [
  | then-count-gt0+in_ok-units+in_ok-push w ↦
      let us = take c.args.count (units_in c.args.rest.now) in
      let old = c.args.self.now in
      let part = w.split_at.ensures.front ∙ front_is c.args.rest.now c.behind_units-more.result.now (units_in c.args.rest.now) c.args.count c.requires.units c.behind_units-more.ensures in
      let t = spells-take c.args.count (units_in c.args.rest.now) c.args.rest.now c.requires.units in
      let e : w.in_ok-units.units ≡ us = w.in_ok-units.ensures ∙ ap units_in part ∙ spelled-units (joined us) us t in
      let k : plain_all w.push.new.self.items ≡ with_text (plain_all old.kids.items) us =
      ap plain_all w.in_ok-push.ensures.items ∙ push_text old.kids.items w.in_ok-units.units ∙ ap (λ z. plain_all old.kids.items ++ text_node z ∷ []) e
      ∙ with_text_some (plain_all old.kids.items) us (take_some (units_in c.args.rest.now) c.args.count w.if-count-gt0.true c.requires.within) in
      ap plain_open w.self-is ∙ ap (λ z. record { from = old.from; to = old.to; name = old.name; kids = z }) k
  | else-count-gt0 w ↦
      let n : c.args.count ≡ 0 = omega arith in
      ap plain_open w.self-is ∙ ap (λ z. write (plain_open c.args.self.now) (take z (units_in c.args.rest.now))) (sym n)
]
