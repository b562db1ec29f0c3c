-- One item stands at the front of some bytes, and no internal subset where an item does.
use Rattle.std.proofs.Common.{◌≡◌, ℕ, List, ◌++◌, codes, refl, sym, ap, ◌∙◌, append_assoc}
use Rattle.pv_tree.specs.Prolog.{IsDoctypeFront}
use Rattle.pv_read.specs.Items.{Item, doctype, BeginsItem}
use Rattle.pv_read.specs.Kinds.{BeginsSubset}
use Rattle.pv_read.specs.Sorts.{sort_of, sort}
use Rattle.pv_read.specs.declared.forms.sorts.Sort.TheVariants.{Doctype}
use Rattle.pv_read.proofs.DoctypeLemmas.{front_steps, same_front}
use Rattle.pv_read.proofs.OneItem.{sort_is, one_item}
use Rattle.pv_read.proofs.AgreeMeans.{ItemsAreOne}

-- what stands after the front of a document type declaration is determined
same_end : (bytes name front rest other another more : List ℕ) → IsDoctypeFront name front →
    IsDoctypeFront other another → bytes ≡ front ++ (codes ">" ++ rest) → bytes ≡ another
    ++ (codes "[" ++ more) → ⊥
same_end bytes name front rest other another more i j e f =
    let inside = (i.space ++ (name ++ (i.external ++ i.gap))) ++ (codes ">" ++ rest) in
    let whole : bytes ≡ codes "<!DOCTYPE" ++ inside = e ∙ ap (λ l. l ++ (codes ">" ++ rest)) i.whole
    ∙ append_assoc (codes "<!DOCTYPE") (i.space ++ (name ++ (i.external ++ i.gap))) (codes ">" ++ rest) in
    let s = front_steps inside name front (codes ">" ++ rest) i (sym whole ∙ e) refl in
    let t = front_steps inside other another (codes "[" ++ more) j (sym whole ∙ f) refl in
    apart (same_front inside name (codes ">" ++ rest) other (codes "[" ++ more) s t).1
  where
    apart : {xs ys : List ℕ} → codes ">" ++ xs ≡ codes "[" ++ ys → ⊥
    apart e = cc

subset_sort : (bytes : List ℕ) → BeginsSubset bytes → sort_of bytes ≡ Doctype
subset_sort bytes s = ap sort_of (s.whole ∙ ap (λ l. l ++ (codes "[" ++ s.more)) s.is_front.whole)

no_subset : (i : Item) (bytes rest : List ℕ) → BeginsItem i bytes rest → BeginsSubset bytes → ⊥
no_subset (doctype name own) bytes rest b s =
    let d = b.has_form in
    same_end bytes name d.front rest s.name s.front s.more d.is_front s.is_front (b.whole ∙ ap (λ l. l ++ rest) d.whole ∙ append_assoc d.front (codes ">") rest) s.whole
no_subset i bytes rest b s = let same : sort i ≡ Doctype = sym (sort_is i bytes rest b) ∙ subset_sort bytes s in cc

pub items_are_one : ItemsAreOne
items_are_one = record { one = λ i j bytes rest more b c. (one_item i j bytes rest more b c).0; no_subset = no_subset }
