-- Tags of known names, with nothing after the name, stand in an element without fault: its end tag,
-- and those that open elements where it isn't too deep.
use Rattle.std.proofs.Common.{Option, Some, ◌≡◌, ℕ, List, [], ◌∷◌, ◌++◌, codes, false, true, inl}
use Rattle.std.proofs.Common.{inr, refl, sym, ap, subst, ◌∙◌, append_assoc}
use Rattle.pv_chars.specs.Names.{IsName}
use Rattle.pv_tree.specs.Attributes.{IsAttributes}
use Rattle.pv_tree.specs.Marks.{blank_mark}
use Rattle.pv_tree.specs.declared.nodes.Mark.{Mark}
use Rattle.pv_read.specs.Items.{Item, end_tag, bytes_of, HasForm, HasKnownReferences, EndsWell}
use Rattle.pv_read.specs.Items.{BeginsItem}
use Rattle.pv_read.specs.Kinds.{IsMismatch, IsOtherDoctype}
use Rattle.pv_read.specs.Left.{Left, Open, in_prolog, in_content, in_epilog, left_by, joined_to}
use Rattle.pv_read.specs.Left.{just_opened, with_kid, empty_element, closed_element}
use Rattle.pv_read.specs.Limits.{IsDeepest}
use Rattle.pv_read.specs.Places.{place_reached, content, open_at}
use Rattle.pv_read.specs.Steps.{TakesItem}
use Rattle.pv_read.proofs.NextItems.{takes}
use Rattle.pv_read.proofs.OneItem.{one_item}
use Rattle.pv_lists.specs.Tags.{IsBareTag}

no_such : false ≡ true → ⊥
no_such e = cc

end_tag_begins : (name rest more : List ℕ) → IsName name → rest ≡ codes "</" ++ (name ++ (codes ">" ++ more)) → BeginsItem (end_tag name []) rest more
end_tag_begins name rest more named whole = record {
  has_form = (named, refl);
  whole = whole ∙ ap (λ (u : List ℕ). codes "</" ++ u) (sym (append_assoc name (codes ">") more)) ∙ sym (append_assoc (codes "</") (name ++ codes ">") more);
  ends_well = tt;
}

pub end_tag_taken : (most : Option ℕ) (root rest more name : List ℕ) (many : ℕ) (left : Left Mark) →
    place_reached left ≡ content name many → IsName name → rest ≡ codes "</" ++ (name ++ (codes ">" ++ more))
    → TakesItem most blank_mark root left rest (end_tag name []) more
end_tag_taken most root rest more name many (in_prolog stage before) at named whole = absurd cc
end_tag_taken most root rest more name many (in_content before inner outer) at named whole =
    let same : name ≡ inner.name = cc in
    takes one_item most blank_mark root (in_content before inner outer) rest (λ h. no_such h.0) (end_tag name []) more (end_tag_begins name rest more named whole)
    (joined_to before outer (closed_element blank_mark inner [])) refl tt (λ other. other same) (λ h. h) (λ h. no_such h.0)
end_tag_taken most root rest more name many (in_epilog before t after) at named whole = absurd cc

no_attributes : (R : List ℕ → Type 0) → IsAttributes R []
no_attributes R = record { attributes = []; space = []; are_attributes = record { pieces = []; are_pieces = tt; whole = refl }; is_space = refl; whole = refl }

-- a tag of a known name, with nothing after it, that opens an element
bare_form : (name : List ℕ) (item : Item) → IsBareTag name item → IsName name → HasForm item
bare_form name item (inl is) named = rw is (named, no_attributes _)
bare_form name item (inr is) named = rw is (named, no_attributes _)

bare_ends : (name more : List ℕ) (item : Item) → IsBareTag name item → EndsWell item more
bare_ends name more item (inl is) = rw is tt
bare_ends name more item (inr is) = rw is tt

bare_known : (name : List ℕ) (item : Item) → IsBareTag name item → HasKnownReferences item
bare_known name item (inl is) = rw is (no_attributes _)
bare_known name item (inr is) = rw is (no_attributes _)

bare_stands : (before name : List ℕ) (inner : Open Mark) (outer : List (Open Mark)) (item : Item)
    → IsBareTag name item
    → (next : Left Mark) × (left_by blank_mark (in_content before inner outer) item ≡ Some next)
bare_stands before name inner outer item (inl is) =
    rw is (in_content before (just_opened name []) (inner ∷ outer), refl)
bare_stands before name inner outer item (inr is) =
    rw is (in_content before (with_kid inner (empty_element blank_mark name [])) outer, refl)

no_mismatch : (left : Left Mark) (name : List ℕ) (item : Item) → IsBareTag name item →
    IsMismatch left item → ⊥
no_mismatch left name item (inl is) = rw is (λ h. h)
no_mismatch left name item (inr is) = rw is (λ h. h)

no_doctype : (root name : List ℕ) (item : Item) → IsBareTag name item
    → IsOtherDoctype root item → ⊥
no_doctype root name item (inl is) = rw is (λ h. h)
no_doctype root name item (inr is) = rw is (λ h. h)

pub bare_tag_taken : (most : Option ℕ) (root rest more around name : List ℕ) (item : Item)
    (many : ℕ)
    (left : Left Mark) → place_reached left ≡ content around many → IsName name
    → (IsDeepest most many → ⊥) → IsBareTag name item → rest ≡ bytes_of item ++ more
    → TakesItem most blank_mark root left rest item more
bare_tag_taken most root rest more around name item many (in_prolog stage before) at named shallow
    bare whole = absurd cc
bare_tag_taken most root rest more around name item many (in_content before inner outer) at named
    shallow bare whole =
    let left = in_content before inner outer in
    let stands = bare_stands before name inner outer item bare in
    let begins : BeginsItem item rest more =
    record {
      has_form = bare_form name item bare named;
      whole = whole;
      ends_well =
          bare_ends name more item bare;
    } in
    takes one_item most blank_mark root left rest (λ h. no_such h.0) item more begins stands.0
    stands.1
    (bare_known name item bare) (no_mismatch left name item bare) (no_doctype root name item bare)
    (λ h. shallow (subst (IsDeepest most) (ap open_at at) h.1))
bare_tag_taken most root rest more around name item many (in_epilog before t after) at named shallow
    bare whole = absurd cc
