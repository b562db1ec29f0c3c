-- A word has no more tokens than its list has nodes.
use Rattle.std.proofs.Common.{Bool, List, ap, arith, false, if◌then◌else◌, length, map, true, ◌+◌, ◌-◌, ◌<◌, ◌^◌, ◌∷◌, ◌≡◌, ◌≤◌}
use Rattle.std.proofs.lemmas.List.{length-map}
use Rattle.pv_chars.specs.Texts.{has_data}
use Rattle.pv_model.specs.Plain.{PlainToken, text}
use Rattle.pv_model.specs.PlainForms.{plain_token}
use Rattle.pv_model.specs.declared.models.Token.{Token}
use Rattle.pv_dtd.specs.Plain.{PlainDtd}
use Rattle.pv_tree.specs.Legal.{MAX_NODES}
use Rattle.pv_tree.specs.Plain.{Forest, Tree, cdata_node, element, misc_node, no_trees, nodes_in, nodes_in_all, text_node, tree}
use Rattle.pv_tree.specs.Words.{node_before, word_of}

text_few : (b : Bool) (w : List PlainToken) → length (if b then text ∷ w else w) ≤ 1 + length w
text_few true w = omega arith
text_few false w = omega arith

node_few : {M : Type 0} (g : PlainDtd) (t : Tree M) (w : List PlainToken) → length (node_before g t w) ≤ nodes_in t + length w
node_few g (element x a e k m) w = omega arith
node_few g (text_node us) w = text_few (has_data us) w
node_few g (cdata_node b) w = omega arith
node_few g (misc_node b) w = omega arith

pub word_few : {M : Type 0} (g : PlainDtd) (kids : Forest M) → length (word_of g kids) ≤ nodes_in_all kids
word_few g no_trees = omega arith
word_few g (tree t rest) = let h = word_few g rest in let n = node_few g t (word_of g rest) in omega arith

-- a list of a document has few enough tokens for numbers of 32 bits
pub tokens_few : {M : Type 0} (g : PlainDtd) (kids : Forest M) (tokens : List Token) → map plain_token tokens ≡ word_of g kids → nodes_in_all kids ≤ MAX_NODES → length tokens < 2 ^ 32 - 1
tokens_few g kids tokens e few = let w = word_few g kids in let l : length tokens ≡ length (word_of g kids) = simp length-map at (ap length e) in omega arith
