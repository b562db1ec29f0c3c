-- A list has no more tokens than kids, and fewer tokens are no wider.
use Rattle.std.proofs.Common.{Bool, List, [], false, length, suc, true, arith, ℕ, ◌∷◌, ◌≤◌, if◌then◌else◌}
use Rattle.std.proofs.Math.Nat.{mul-le-mul_right}
use Rattle.pv_chars.specs.Texts.{has_data}
use Rattle.pv_model.specs.Plain.{PlainToken, text}
use Rattle.pv_dtd.specs.Plain.{PlainDtd}
use Rattle.pv_tree.specs.Plain.{Tree, cdata_node, element, misc_node, text_node}
use Rattle.pv_tree.specs.PlainForms.{forest, plain}
use Rattle.pv_tree.specs.Words.{node_before, word_of}
use Rattle.pv_tree.specs.declared.nodes.Mark.{Mark}
use Rattle.pv_tree.specs.declared.nodes.Node.{Node}
use Rattle.pv_missing.specs.Widths.{FitsVerdict, columns_of}

text_more : (b : Bool) (u : List PlainToken) → length (if b then text ∷ u else u) ≤ suc (length u)
text_more true u = omega arith
text_more false u = omega arith

one_more : (g : PlainDtd) (t : Tree Mark) (u : List PlainToken) → length (node_before g t u) ≤ suc (length u)
one_more g (element x attrs ending kids mark) u = omega arith
one_more g (text_node units) u = text_more (has_data units) u
one_more g (cdata_node bytes) u = omega arith
one_more g (misc_node bytes) u = omega arith

-- there are no more tokens than kids
pub few_tokens : (g : PlainDtd) (kids : List Node) → length (word_of g (forest kids)) ≤ length kids
few_tokens g [] = omega arith
few_tokens g (kid ∷ kids) = omega (arith, one_more g (plain kid) (word_of g (forest kids)), few_tokens g kids)

pub fits_less : (g : PlainDtd) (m n : ℕ) → m ≤ n → FitsVerdict g n → FitsVerdict g m
fits_less g m n h fits =
    let less : suc m ≤ suc n = omega arith in
    let less_in_all = mul-le-mul_right (columns_of g) less in
    omega arith
