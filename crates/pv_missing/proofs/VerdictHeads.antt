-- What a verdict looks at.
use Rattle.std.proofs.Common.{List, [], ap, if◌then◌else◌, refl, sym, ℕ, ◌∙◌, ◌∷◌, ◌≡◌, ◌↔◌}
use Rattle.pv_model.specs.Plain.{PlainToken, text}
use Rattle.pv_dtd.specs.Hedge.{token}
use Rattle.pv_dtd.specs.Plain.{PlainDtd, number_of}
use Rattle.pv_tree.specs.Heads.{Head, cdata_head, element_head, head_of, heads_of, misc_head, text_head}
use Rattle.pv_tree.specs.Lists.{IsOwnValid, IsRootElement, IsRootList, IsValidBy, Owner, an_element, the_document}
use Rattle.pv_tree.specs.Plain.{Forest, Tree, cdata_node, element, misc_node, no_trees, text_node, tree}
use Rattle.pv_tree.specs.Words.{node_before, word_of}
use Rattle.pv_missing.specs.VerdictLaws.{VerdictByHeads}
use Rattle.pv_missing.specs.Verdicts.{IsLiveBy, IsLiveContent, IsLiveRoot, Judges}
use Rattle.pv_missing.proofs.VerdictWords.{same_judged}
use Rattle.pv_tree.specs.declared.nodes.Verdict.{Verdict}

abbrev head_before : PlainDtd → Head → List PlainToken → List PlainToken
head_before g (element_head x) u = token (number_of g x) ∷ u
head_before g (text_head b) u = if b then text ∷ u else u
head_before g cdata_head u = text ∷ u
head_before g misc_head u = u

abbrev word_of_heads : PlainDtd → List Head → List PlainToken
word_of_heads g [] = []
word_of_heads g (h ∷ hs) = head_before g h (word_of_heads g hs)

node_by_head : {M : Type 0} (g : PlainDtd) (t : Tree M) (u : List PlainToken) → node_before g t u ≡ head_before g (head_of t) u
node_by_head g (element x a e k m) u = refl
node_by_head g (text_node us) u = refl
node_by_head g (cdata_node b) u = refl
node_by_head g (misc_node b) u = refl

word_by_heads : {M : Type 0} (g : PlainDtd) (k : Forest M) → word_of g k ≡ word_of_heads g (heads_of k)
word_by_heads g no_trees = refl
word_by_heads g (tree t r) = node_by_head g t (word_of g r) ∙ ap (head_before g (head_of t)) (word_by_heads g r)

-- lists of the same heads have the same word
pub same_word : {M N : Type 0} (g : PlainDtd) (k : Forest M) (k' : Forest N) → heads_of k ≡ heads_of k' → word_of g k ≡ word_of g k'
same_word g k k' e = word_by_heads g k ∙ ap (word_of_heads g) e ∙ sym (word_by_heads g k')

same_none : {M N : Type 0} (k : Forest M) (k' : Forest N) → heads_of k ≡ heads_of k' → k ≡ no_trees → k' ≡ no_trees
same_none k no_trees e z = refl
same_none k (tree t r) e z = absurd (let f : heads_of k ≡ [] = rw z refl in cc)

content_alike : {M N : Type 0} (g : PlainDtd) (x : List ℕ) (k : Forest M) (k' : Forest N) → heads_of k ≡ heads_of k' → IsLiveContent g x k → IsLiveContent g x k'
content_alike g x k k' e l = record {
  number = l.number;
  is_owner = l.is_owner;
  productive = l.productive;
  no_kids = λ m. same_none k k' e (l.no_kids m);
  live = l.live;
  is_live = rw (same_word g k k' e) at l.is_live;
  possible = l.possible;
}

root_alike : {M N : Type 0} (g : PlainDtd) (root : List ℕ) (k : Forest M) (k' : Forest N) → heads_of k ≡ heads_of k' → IsLiveRoot g root k → IsLiveRoot g root k'
root_alike g root k k' e l = record {
  number = l.number;
  is_owner = l.is_owner;
  live = l.live;
  is_live = rw (same_word g k k' e) at l.is_live;
  possible = l.possible;
}

pub live_alike : {M N : Type 0} (g : PlainDtd) (root : List ℕ) (o : Owner) (k : Forest M) (k' : Forest N) → heads_of k ≡ heads_of k' → IsLiveBy g root o k → IsLiveBy g root o k'
live_alike g root the_document k k' e l = root_alike g root k k' e l
live_alike g root (an_element x) k k' e l = content_alike g x k k' e l

own_alike : {M N : Type 0} (g : PlainDtd) (x : List ℕ) (k : Forest M) (k' : Forest N) → heads_of k ≡ heads_of k' → IsOwnValid g (number_of g x) k → IsOwnValid g (number_of g x) k'
own_alike g x k k' e o = record {
  number = o.number;
  is_owner = o.is_owner;
  model = o.model;
  is_model = o.is_model;
  no_kids = λ m. same_none k k' e (o.no_kids m);
  allowed = rw (same_word g k k' e) at o.allowed;
}

root_head : {M : Type 0} (root : List ℕ) (t : Tree M) → IsRootElement root t → head_of t ≡ element_head root
root_head root (element x a e k m) r = ap element_head r
root_head root (text_node us) r = absurd r
root_head root (cdata_node b) r = absurd r
root_head root (misc_node b) r = absurd r

root_by_head : {M : Type 0} (root : List ℕ) (t : Tree M) → head_of t ≡ element_head root → IsRootElement root t
root_by_head root (element x a e k m) h = cc
root_by_head root (text_node us) h = absurd cc
root_by_head root (cdata_node b) h = absurd cc
root_by_head root (misc_node b) h = absurd cc

root_heads : {M : Type 0} (root : List ℕ) (k : Forest M) → IsRootList root k → heads_of k ≡ element_head root ∷ []
root_heads root no_trees r = absurd r
root_heads root (tree t no_trees) r = ap (λ h. h ∷ []) (root_head root t r.0)
root_heads root (tree t (tree u v)) r = absurd (let f : tree u v ≡ no_trees = r.1 in cc)

no_heads : {M : Type 0} (k : Forest M) → heads_of k ≡ [] → k ≡ no_trees
no_heads no_trees h = refl
no_heads (tree t r) h = absurd cc

root_by_heads : {M : Type 0} (root : List ℕ) (k : Forest M) → heads_of k ≡ element_head root ∷ [] → IsRootList root k
root_by_heads root no_trees h = absurd cc
root_by_heads root (tree t r) h = (root_by_head root t cc, no_heads r cc)

valid_alike : {M N : Type 0} (g : PlainDtd) (root : List ℕ) (o : Owner) (k : Forest M) (k' : Forest N) → heads_of k ≡ heads_of k' → IsValidBy g root o k → IsValidBy g root o k'
valid_alike g root the_document k k' e v = root_by_heads root k' (sym e ∙ root_heads root k v)
valid_alike g root (an_element x) k k' e v = own_alike g x k k' e v

same_by : {M N : Type 0} (g : PlainDtd) (root : List ℕ) (o : Owner) (k : Forest M) (k' : Forest N) (v : Verdict) → heads_of k ≡ heads_of k' →
    Judges v (IsLiveBy g root o k) (IsValidBy g root o k) ↔ Judges v (IsLiveBy g root o k') (IsValidBy g root o k')
same_by g root o k k' v e = same_judged v _ _ _ _ (live_alike g root o k k' e, live_alike g root o k' k (sym e)) (λ l. valid_alike g root o k k' e) (λ l. valid_alike g root o k' k (sym e))

pub verdict_by_heads : (M N : Type 0) → VerdictByHeads M N
verdict_by_heads M N g root list other v o e = rw o (same_by g root other.owner list.kids other.kids v e)
