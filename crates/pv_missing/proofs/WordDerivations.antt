-- The missing grammar over terms and words, in place of numbers and spans: what its symbols derive.
use Rattle.std.specs.Prelude.{Contains}
use Rattle.std.proofs.Common.{List, Some, [], suc, ℕ, ◌++◌, ◌+◌, ◌∷◌, ◌≡◌, ◌≢◌, ◌≤◌}
use Rattle.pv_model.specs.Plain.{PlainPart, PlainParts, PlainToken, any, children, choice, empty, mixed, name, named, no_parts, opt, part, plus, seq, star, text}
use Rattle.pv_dtd.specs.Plain.{IsDeclared, PlainDtd, model_of}
use Rattle.pv_dtd.specs.Proper.{IsFull}

-- the symbols: an element of a name, the content of one, a content particle, and the members of a sequence from some member on
pub data Symbol : Type 0 where
  of_name : ℕ → Symbol
  of_content : ℕ → Symbol
  of_part : PlainPart → Symbol
  of_rest : PlainParts → Symbol

-- p is one of the members
pub data IsMember (p : PlainPart) : PlainParts → Type 0 where
  in_front : (ps : PlainParts) → IsMember p (part p ps)
  behind : (q : PlainPart) (ps : PlainParts) → IsMember p ps → IsMember p (part q ps)

-- the symbol has a derivation of this weight over this word
pub data DerivesWord (g : PlainDtd) : ℕ → Symbol → List PlainToken → Type 0 where
  word_kept : (n x : ℕ) (w : List PlainToken) → n ≡ 0 → w ≡ named x ∷ [] → DerivesWord g n (of_name x) w
  word_missing : (n a x : ℕ) (w : List PlainToken) → n ≡ suc a → DerivesWord g a (of_content x) w → DerivesWord g n (of_name x) w
  word_empty_none : (n x : ℕ) (w : List PlainToken) → model_of g x ≡ Some empty → n ≡ 0 → w ≡ [] → DerivesWord g n (of_content x) w
  word_mixed_none : (n x : ℕ) (ys : List ℕ) (w : List PlainToken) → model_of g x ≡ Some (mixed ys) → n ≡ 0 → w ≡ [] → DerivesWord g n (of_content x) w
  word_mixed_text : (n x : ℕ) (ys : List ℕ) (v w : List PlainToken) → model_of g x ≡ Some (mixed ys) → w ≡ text ∷ v → DerivesWord g n (of_content x) v → DerivesWord g n (of_content x) w
  word_mixed_name : (n a b x y : ℕ) (ys : List ℕ) (u v w : List PlainToken) → model_of g x ≡ Some (mixed ys) → Contains ys y → n ≡ a + b → w ≡ u ++ v → u ≢ [] →
      DerivesWord g a (of_part (name y)) u → DerivesWord g b (of_content x) v → DerivesWord g n (of_content x) w
  word_any_none : (n x : ℕ) (w : List PlainToken) → model_of g x ≡ Some any → n ≡ 0 → w ≡ [] → DerivesWord g n (of_content x) w
  word_any_text : (n x : ℕ) (v w : List PlainToken) → model_of g x ≡ Some any → w ≡ text ∷ v → DerivesWord g n (of_content x) v → DerivesWord g n (of_content x) w
  word_any_name : (n a b x y : ℕ) (u v w : List PlainToken) → model_of g x ≡ Some any → IsDeclared g y → n ≡ a + b → w ≡ u ++ v → u ≢ [] →
      DerivesWord g a (of_name y) u → DerivesWord g b (of_content x) v → DerivesWord g n (of_content x) w
  word_children_part : (n x : ℕ) (p : PlainPart) (w : List PlainToken) → model_of g x ≡ Some (children p) → DerivesWord g n (of_part p) w → DerivesWord g n (of_content x) w
  word_part_name : (n y : ℕ) (w : List PlainToken) → DerivesWord g n (of_name y) w → DerivesWord g n (of_part (name y)) w
  word_part_seq : (n : ℕ) (ps : PlainParts) (w : List PlainToken) → DerivesWord g n (of_rest ps) w → DerivesWord g n (of_part (seq ps)) w
  word_part_choice : (n : ℕ) (p : PlainPart) (ps : PlainParts) (w : List PlainToken) → IsMember p ps → DerivesWord g n (of_part p) w → DerivesWord g n (of_part (choice ps)) w
  word_opt_none : (n : ℕ) (p : PlainPart) (w : List PlainToken) → n ≡ 0 → w ≡ [] → DerivesWord g n (of_part (opt p)) w
  word_opt_one : (n : ℕ) (p : PlainPart) (w : List PlainToken) → DerivesWord g n (of_part p) w → DerivesWord g n (of_part (opt p)) w
  word_star_none : (n : ℕ) (p : PlainPart) (w : List PlainToken) → n ≡ 0 → w ≡ [] → DerivesWord g n (of_part (star p)) w
  word_star_more : (n a b : ℕ) (p : PlainPart) (u v w : List PlainToken) → n ≡ a + b → w ≡ u ++ v → u ≢ [] →
      DerivesWord g a (of_part p) u → DerivesWord g b (of_part (star p)) v → DerivesWord g n (of_part (star p)) w
  word_plus_one : (n : ℕ) (p : PlainPart) (w : List PlainToken) → DerivesWord g n (of_part p) w → DerivesWord g n (of_part (plus p)) w
  word_plus_more : (n a b : ℕ) (p : PlainPart) (u v w : List PlainToken) → n ≡ a + b → w ≡ u ++ v → u ≢ [] → v ≢ [] →
      DerivesWord g a (of_part p) u → DerivesWord g b (of_part (plus p)) v → DerivesWord g n (of_part (plus p)) w
  word_rest_last : (n : ℕ) (p : PlainPart) (w : List PlainToken) → DerivesWord g n (of_part p) w → DerivesWord g n (of_rest (part p no_parts)) w
  word_rest_then : (n a b : ℕ) (p q : PlainPart) (ps : PlainParts) (u v w : List PlainToken) → n ≡ a + b → w ≡ u ++ v →
      DerivesWord g a (of_part p) u → DerivesWord g b (of_rest (part q ps)) v → DerivesWord g n (of_rest (part p (part q ps))) w

abbrev pub AreFull : PlainDtd → Type 0
AreFull g = (x : ℕ) (p : PlainPart) → model_of g x ≡ Some (children p) → IsFull p

-- a derivation of at most this weight
pub record AtMost (g : PlainDtd) (n : ℕ) (s : Symbol) (w : List PlainToken) : Type 0 where
  pub weight : ℕ
  pub is_most : weight ≤ n
  pub derives : DerivesWord g weight s w
