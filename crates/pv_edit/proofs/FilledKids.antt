-- A filling in place of some kids, from vectors to lists of trees.
use Rattle.std.proofs.Common.{◌≡◌, ◌<◌, ◌≤◌, ℕ, suc, ◌+◌, ◌-◌, List, [], ◌∷◌, ◌++◌, Vec, Global, length}
use Rattle.std.proofs.Common.{take, drop, get_or, slice_set, map, refl, sym, ap, ◌∙◌, IsTrue}
use Rattle.std.proofs.Common.{arith}
use Rattle.std.proofs.lemmas.List.{length-map, length-take-le, map-append, take-map, drop-map, append-nil}
use Rattle.std.proofs.lemmas.List.{set_split, set_at, get_or_at, take-set-le, drop-set-lt, get_or-map}
use Rattle.std.proofs.lemmas.List.Edits.{length-between, between_none, between_more}
use Rattle.std.specs.List.{between, splice}
use Rattle.pv_tree.specs.Plain.{Tree, Ending, element, is_element}
use Rattle.pv_tree.specs.PlainForms.{plain, plain_all, plain_end, forest}
use Rattle.pv_tree.specs.declared.nodes.End.{End}
use Rattle.pv_tree.specs.declared.nodes.Mark.{Mark}
use Rattle.pv_tree.specs.declared.nodes.Node.{Node, Elem}
use Rattle.pv_tree.proofs.Levels.{trees-forest, kids_of-Elem}
use Rattle.pv_tree.specs.Places.{kids_of}
use Rattle.pv_edit.specs.Changes.{all_kids, in_place_of, with_name}
use Rattle.pv_edit.specs.FittingChanges.{plain_filling, with_kids}
use Rattle.pv_edit.specs.Reasons.{is_one_element}
use Rattle.pv_edit.specs.declared.filling.Filling.{Filling}
use Rattle.pv_edit.specs.declared.filling.Filling.TheVariants.{Inner}

-- the kids that give way
pub slice_plain : (from to : ℕ) (items : List Node) →
    plain_all (take (to - from) (drop from items)) ≡ between from to (plain_all items)
slice_plain from to items =
    sym (take-map plain (to - from) (drop from items))
    ∙ ap (take (to - from)) (sym (drop-map plain from items))

-- nodes in place of kids, as trees in place of trees
pub plain_spliced : (from to : ℕ) (items nodes all : List Node) → all ≡ splice items from to nodes →
    plain_all all ≡ splice (plain_all items) from to (plain_all nodes)
plain_spliced from to items nodes all e =
    ap plain_all e
    ∙ map-append plain (take from items) (nodes ++ drop to items)
    ∙ ap (λ (l : List (Tree Mark)). plain_all (take from items) ++ l)
    (map-append plain nodes (drop to items))
    ∙ sym (rw (take-map plain from items, drop-map plain to items) refl)

-- the kids of one element
pub inner_is : (filling : Filling) (ts : List (Tree Mark)) (x attrs : List ℕ) (e : Ending)
    (ks : List Node) (m : Mark) → filling ≡ Inner → ts ≡ element x attrs e (forest ks) m ∷ [] →
    in_place_of (plain_filling filling) ts ≡ plain_all ks
inner_is filling ts x attrs e ks m f h = rw (f, h) (append-nil _ ∙ trees-forest (plain_all ks))

pub kids-length : (name attrs : List ℕ) (e : End) (ks : Vec Node Global) (m : Mark) →
    length (kids_of (plain (Elem name attrs e ks m))) ≡ length ks.items
kids-length name attrs e ks m =
    ap length (sym (kids_of-Elem name attrs e ks m)) ∙ length-map ks.items plain

-- an element in place of kids, that is given them
pub around_put : (from to : ℕ) (items once inner all : List Node) (bare old new : Node) →
    from ≤ length items → once ≡ splice items from to (bare ∷ []) → inner ≡ between from to items →
    old ≡ get_or once from old → plain new ≡ with_kids (plain_all inner) (plain old) →
    all ≡ slice_set once from new →
    plain_all all ≡ splice (plain_all items) from to
    (with_kids (between from to (plain_all items)) (plain bare) ∷ [])
around_put from to items once inner all bare old new w o i g n a =
    let front : length (take from items) ≡ from = length-take-le from items w in
    let was : old ≡ bare =
    g ∙ ap (λ (l : List Node). get_or l from old) o
    ∙ get_or_at (take from items) bare (drop to items) old from front in
    let is : plain new ≡ with_kids (between from to (plain_all items)) (plain bare) =
    n ∙ rw (was, i, slice_plain from to items) refl in
    plain_spliced from to items (new ∷ []) all
    (a ∙ ap (λ (l : List Node). slice_set l from new) o
    ∙ set_at (take from items) bare (drop to items) new from front)
    ∙ ap (λ (t : Tree Mark). splice (plain_all items) from to (t ∷ [])) is

one_length : {M : Type 0} (ts : List (Tree M)) → IsTrue (is_one_element ts) → length ts ≡ 1
one_length [] h = absurd cc
one_length (t ∷ []) h = refl
one_length (t ∷ u ∷ ts) h = absurd cc

-- the only one of the kids that give way, an element
pub record IsOnly (from to : ℕ) (items : List Node) (old : Node) : Type 0 where
  pub next : to ≡ from + 1
  pub only : between from to (plain_all items) ≡ plain old ∷ []
  pub elem : IsTrue (is_element (plain old))

pub only_kid : (from to : ℕ) (items : List Node) (old : Node) → to ≤ length items →
    IsTrue (is_one_element (between from to (plain_all items))) → old ≡ get_or items from old →
    IsOnly from to items old
only_kid from to items old w h o =
    let ts = plain_all items in
    let count : length ts ≡ length items = length-map items plain in
    let n : to - from ≡ 1 =
    sym (length-between ts from to (omega (arith, count))) ∙ one_length (between from to ts) h in
    let next : to ≡ from + 1 = omega (arith, n) in
    let is : between from to ts ≡ plain old ∷ [] =
    ap (λ (k : ℕ). between from k ts) next
    ∙ between_more ts from from (plain old) (omega arith) (omega (arith, count, n))
    ∙ rw (
      between_none ts from,
      get_or-map plain items from old (plain old) (omega (arith, n)),
      ← o,
    ) refl in
    record { next = next; only = is; elem = rw is at h }

-- its kids in place of it
pub inner_put : (from to : ℕ) (items bared inner all : List Node) (old bare : Node) →
    IsOnly from to items old → bared ≡ slice_set items from bare →
    plain_all inner ≡ kids_of (plain old) → all ≡ splice bared from to inner →
    plain_all all ≡ splice (plain_all items) from to
    (all_kids (between from to (plain_all items)))
inner_put from to items bared inner all old bare o b k a =
    let front : take from bared ≡ take from items =
    ap (take from) b ∙ take-set-le from items from bare (omega arith) in
    let back : drop to bared ≡ drop to items =
    ap (drop to) b ∙ drop-set-lt to items from bare (omega (arith, o.next)) in
    plain_spliced from to items inner all
    (a ∙ rw (front, back) refl)
    ∙ ap (λ (l : List (Tree Mark)). splice (plain_all items) from to l)
    (k ∙ sym (ap all_kids o.only ∙ append-nil (kids_of (plain old))))

-- it under another name
pub name_put : (from to : ℕ) (items all : List Node) (name : List ℕ) (old new : Node) →
    IsOnly from to items old → to ≤ length items → plain new ≡ with_name name (plain old) →
    all ≡ slice_set items from new →
    plain_all all ≡ splice (plain_all items) from to
    (map (with_name name) (between from to (plain_all items)))
name_put from to items all name old new o w n a =
    let next : suc from ≡ to = omega (arith, o.next) in
    plain_spliced from to items (new ∷ []) all
    (a ∙ set_split items from new (omega (arith, o.next))
    ∙ ap (λ (k : ℕ). take from items ++ new ∷ drop k items) next)
    ∙ ap (λ (l : List (Tree Mark)). splice (plain_all items) from to l)
    (ap (λ (t : Tree Mark). t ∷ []) n ∙ sym (ap (map (with_name name)) o.only))
