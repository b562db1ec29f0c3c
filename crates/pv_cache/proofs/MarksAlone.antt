-- Updating changes marks alone.
use Rattle.std.proofs.Common.{◌≡◌, ◌≤◌, ap, arith, sym, refl, ℕ, zero, suc, List, [], ◌∷◌, Option}
use Rattle.std.proofs.Common.{Some, None, subst}
use Rattle.pv_edit.specs.Changes.{change_kid}
use Rattle.pv_edit.specs.Inverses.{IsKept}
use Rattle.pv_edit.proofs.RemarkedFacts.{kept-from, kept-to}
use Rattle.pv_tree.specs.Marks.{unmarked_doc}
use Rattle.pv_tree.specs.Plain.{Forest, PlainDoc, Tree, cdata_node, element, misc_node, no_trees}
use Rattle.pv_tree.specs.Plain.{map_marks_all, nodes_in, text_node, tree, without_marks}
use Rattle.pv_tree.specs.declared.nodes.Mark.{Mark}
use Rattle.pv_tree.specs.declared.nodes.Verdict.{Verdict}
use Rattle.pv_cache.specs.AcceptedEdits.{MAX_EDITED_NODES}
use Rattle.pv_cache.specs.Updates.{update_element, update_below, update_doc, update_kids, update_owner}
use Rattle.pv_cache.specs.Updates.{update_root}
use Rattle.pv_cache.specs.declared.updates.InnerVerdict.{InnerVerdict}
use Rattle.pv_cache.proofs.OtherMarks.{nodes_unmarked}

-- the function changes marks alone
abbrev pub KeepsTrees : (Tree Mark → Tree Mark) → Type 0
KeepsTrees f = (t : Tree Mark) → without_marks (f t) ≡ without_marks t

abbrev pub all_without_marks : Forest Mark → Forest Unit
all_without_marks kids = map_marks_all (λ _. tt) kids

pub kid-as : (f : Tree Mark → Tree Mark) → KeepsTrees f → (i : ℕ) (kids : Forest Mark) →
    all_without_marks (change_kid f i kids) ≡ all_without_marks kids
kid-as f k i no_trees = refl
kid-as f k zero (tree t rest) = ap (λ u. tree u (all_without_marks rest)) (k t)
kid-as f k (suc i) (tree t rest) = ap (tree (without_marks t)) (kid-as f k i rest)

pub updated-as : (v : Verdict) (stamp : ℕ) → KeepsTrees (update_element v stamp)
updated-as v stamp (element x a e kids m) = refl
updated-as v stamp (text_node us) = refl
updated-as v stamp (cdata_node b) = refl
updated-as v stamp (misc_node b) = refl

kids-as : (inner : Option InnerVerdict) (stamp : ℕ) (kids : Forest Mark) →
    all_without_marks (update_kids inner stamp kids) ≡ all_without_marks kids
kids-as None stamp kids = refl
kids-as (Some i) stamp kids =
    kid-as (update_element i.verdict stamp) (updated-as i.verdict stamp) i.place kids

pub owner-as : (v : Verdict) (inner : Option InnerVerdict) (stamp : ℕ) →
    KeepsTrees (update_owner v inner stamp)
owner-as v inner stamp (element x a e kids m) =
    ap (λ k. element x a e k tt) (kids-as inner stamp kids)
owner-as v inner stamp (text_node us) = refl
owner-as v inner stamp (cdata_node b) = refl
owner-as v inner stamp (misc_node b) = refl

pub below-as : (path : List ℕ) (f : Tree Mark → Tree Mark) → KeepsTrees f →
    KeepsTrees (update_below path f)
below-as [] f k t = k t
below-as (i ∷ path) f k (element x a e kids m) =
    ap (λ l. element x a e l tt) (kid-as (update_below path f) (below-as path f k) i kids)
below-as (i ∷ path) f k (text_node us) = refl
below-as (i ∷ path) f k (cdata_node b) = refl
below-as (i ∷ path) f k (misc_node b) = refl

pub root-as : (inner : Option InnerVerdict) (stamp : ℕ) → KeepsTrees (update_root inner stamp)
root-as None stamp t = refl
root-as (Some i) stamp t = updated-as i.verdict stamp t

-- a updated document is the same document
pub doc-as : (path : List ℕ) (v : Verdict) (inner : Option InnerVerdict) (stamp : ℕ)
    (doc : PlainDoc Mark) → unmarked_doc (update_doc path v inner stamp doc) ≡ unmarked_doc doc
doc-as [] v inner stamp doc =
    ap (λ t. record { before = doc.before; root = t; after = doc.after; mark = tt })
    (root-as inner stamp doc.root)
doc-as (i ∷ path) v inner stamp doc =
    ap (λ t. record { before = doc.before; root = t; after = doc.after; mark = tt })
    (below-as path (update_owner v inner stamp) (owner-as v inner stamp) doc.root)

-- and what a document keeps of its tree stays
pub still-kept : (t u : Tree Mark) → without_marks u ≡ without_marks t → IsKept t → IsKept u
still-kept t u e k =
    kept-from (λ _. tt) u (subst (λ (v : Tree Unit). IsKept v) (sym e) (kept-to (λ _. tt) t k))

-- nor does updating make nodes
pub few-updated : (path : List ℕ) (v : Verdict) (inner : Option InnerVerdict) (stamp : ℕ)
    (doc : PlainDoc Mark) → nodes_in doc.root ≤ MAX_EDITED_NODES →
    nodes_in (update_doc path v inner stamp doc).root ≤ MAX_EDITED_NODES
few-updated path v inner stamp doc n =
    let s = ap (λ (d : PlainDoc Unit). nodes_in d.root) (doc-as path v inner stamp doc) in
    let a = nodes_unmarked (update_doc path v inner stamp doc).root in
    let b = nodes_unmarked doc.root in
    omega arith
