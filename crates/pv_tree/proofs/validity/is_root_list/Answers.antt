use Rattle.std.proofs.Common.{◌≡◌, ◌≤◌, ◌<◌, ◌↔◌, IsTrue, Bool, List, [], ◌∷◌, length, get_or, ℕ, refl, false, arith, subst}
use Rattle.pv_tree.specs.Lists.{IsRootElement, IsRootList}
use Rattle.pv_tree.specs.PlainForms.{forest, plain}
use Rattle.pv_tree.specs.declared.nodes.Node.{Node}
use Rattle.pv_tree.proofs.validity.is_root_list.Goals as goal

one_kid : (root : List ℕ) (kids : List Node) (node : Node) (is : Bool) → 1 ≤ length kids →
    length kids < 2 → node ≡ get_or kids 0 node → IsTrue is ↔ IsRootElement root (plain node) →
    IsTrue is ↔ IsRootList root (forest kids)
one_kid root [] node is some few e h = absurd (omega (arith, some))
one_kid root (kid ∷ []) node is some few e h = let t = subst (λ (n : Node). IsTrue is ↔ IsRootElement root (plain n)) e h in (λ is. (t.0 is, refl), λ is. t.1 is.0)
one_kid root (kid ∷ next ∷ kids) node is some few e h = absurd (omega (arith, few))

not_one : (root : List ℕ) (kids : List Node) → (length kids ≡ 1 → ⊥) → IsTrue false ↔ IsRootList root (forest kids)
not_one root [] none = (λ t. absurd cc, λ is. absurd is)
not_one root (kid ∷ []) none = (λ t. absurd cc, λ is. absurd (none refl))
not_one root (kid ∷ next ∷ kids) none = (λ t. absurd cc, λ is. absurd (let more = is.1 in cc))

pub returns-in-len1 : goal.returns-in-len1
returns-in-len1 c = one_kid c.args.root.now c.args.kids.now c.node-item.result c.is_root.result c.in-len1.len_at_least c.in-len1.len_below c.node-item.is c.is_root.ensures

pub returns-in_default : goal.returns-in_default
returns-in_default c = not_one c.args.root.now c.args.kids.now (λ one. omega (arith, one, c.in_default.len_below))

pub returns-in_default-2 : goal.returns-in_default-2
returns-in_default-2 c = not_one c.args.root.now c.args.kids.now (λ one. omega (arith, one, c.in_default.len_at_least))
