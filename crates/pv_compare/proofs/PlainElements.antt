-- The elements without attribute bytes, by events and by hedges.
use Rattle.std.proofs.Common.{List, [], append-nil, append_assoc, ap, length, refl, sym, ℕ, ◌++◌, ◌==◌, ◌∙◌, ◌∷◌, ◌≡◌}
use Rattle.std.proofs.lemmas.List.{map-append}
use Rattle.pv_dtd.specs.Hedge.{Hedge, done}
use Rattle.pv_tree.specs.Plain.{Forest, Tree, cdata_node, element, misc_node, no_trees, text_node, tree}
use Rattle.pv_tree.specs.View.{spread, view, view_all, view_before}
use Rattle.pv_flat.specs.Plain.{PlainEvent, end_element, events_of, events_of_all}
use Rattle.pv_compare.specs.Kept.{are_plain, attributes_of}
use Rattle.pv_compare.specs.ReadEvents.{is_plain_start, plain_starts}

pub plain-append : (es fs : List PlainEvent) → plain_starts (es ++ fs) ≡ plain_starts es ++ plain_starts fs
plain-append [] fs = refl
plain-append (e ∷ es) fs = ap (λ l. is_plain_start e ++ l) (plain-append es fs) ∙ sym (append_assoc (is_plain_start e) (plain_starts es) (plain_starts fs))

pub plain-push : (es : List PlainEvent) (e : PlainEvent) → plain_starts (es ++ e ∷ []) ≡ plain_starts es ++ is_plain_start e
plain-push es e = plain-append es (e ∷ []) ∙ ap (λ l. plain_starts es ++ l) (append-nil (is_plain_start e))

spread-none : (us : List (List ℕ)) (h : Hedge) → attributes_of (spread us h) ≡ attributes_of h
spread-none [] h = refl
spread-none (u ∷ us) h = spread-none us h

mutual
  plain-before : {M : Type 0} (t : Tree M) (h : Hedge) → are_plain (attributes_of (view_before t h)) ≡ plain_starts (events_of t) ++ are_plain (attributes_of h)
  plain-before (element x attrs ending kids mark) h =
      ap (λ l. (length attrs == 0) ∷ l)
      (map-append (λ a. length a == 0) (attributes_of (view_all kids)) (attributes_of h)
      ∙ ap (λ l. l ++ are_plain (attributes_of h)) (plain-all kids ∙ sym (append-nil (plain_starts (events_of_all kids))) ∙ sym (plain-append (events_of_all kids) (end_element ∷ []))))
  plain-before (text_node units) h = ap are_plain (spread-none units h)
  plain-before (cdata_node bytes) h = refl
  plain-before (misc_node bytes) h = refl

  plain-all : {M : Type 0} (kids : Forest M) → are_plain (attributes_of (view_all kids)) ≡ plain_starts (events_of_all kids)
  plain-all no_trees = refl
  plain-all (tree t rest) = plain-before t (view_all rest) ∙ ap (λ l. plain_starts (events_of t) ++ l) (plain-all rest) ∙ sym (plain-append (events_of t) (events_of_all rest))

pub plain-tree : {M : Type 0} (t : Tree M) → plain_starts (events_of t) ≡ are_plain (attributes_of (view t))
plain-tree t = sym (append-nil (plain_starts (events_of t))) ∙ sym (plain-before t done)
